-- The algebra of a group (SPARQL 1.1, section 18.2.2).
use Rattle.std.specs.Prelude.{◌≡◌, Bool, true, false, if◌then◌else◌, List, [], ◌∷◌, ◌++◌, Option, Some, None, fold, flat_map, nat_eq, refl}
use Rattle.sparql_algebra.specs.declared.var.Var.{Var}
use Rattle.sparql_algebra.specs.declared.pattern.Place.{Place}
use Rattle.sparql_algebra.specs.declared.pattern.Place.TheVariants as place
use Rattle.sparql_algebra.specs.declared.pattern.PatternTriple.{PatternTriple}
use Rattle.sparql_algebra.specs.declared.expr.Expr.{Expr}
use Rattle.sparql_algebra.specs.declared.expr.Expr.TheVariants as expr
use Rattle.sparql_algebra.specs.declared.algebra.Algebra.{Algebra}
use Rattle.sparql_algebra.specs.declared.algebra.Algebra.TheVariants.{Bgp, Join, Union, LeftJoin, Filter}
use Rattle.sparql_text.specs.Scope.{firsts}
use Rattle.sparql_text.specs.Groups.{Group, Groups}

-- whether this is the empty BGP
abbrev pub is_empty_bgp : Algebra → Bool
is_empty_bgp (Bgp []) = true
is_empty_bgp other = false

-- a Join, which the other side stands for where one side is the empty BGP
abbrev pub join : Algebra → Algebra → Algebra
join a b = if is_empty_bgp a then b else if is_empty_bgp b then a else Join a b

-- the conditions of the FILTERs written directly in a group, in their order
abbrev pub conditions_in : Group → List Expr
conditions_in Group.Empty = []
conditions_in (Group.Patterns patterns more) = conditions_in more
conditions_in (Group.Alternatives groups more) = conditions_in more
conditions_in (Group.Optional group more) = conditions_in more
conditions_in (Group.Filter condition more) = condition ∷ conditions_in more

-- conditions joined by `&&`, from the left; none where there are none
abbrev pub all_of : List Expr → Option Expr
all_of [] = None
all_of (condition ∷ conditions) = Some (fold (λ a b. expr.And a b) condition conditions)

-- a Filter, where there is a condition
abbrev pub filtered : Option Expr → Algebra → Algebra
filtered None pattern = pattern
filtered (Some condition) pattern = Filter condition pattern

abbrev mutual
  -- what the elements of a group make of the algebra before them and of the triple patterns since: a run of triple
  -- patterns, FILTERs not counted, is one BGP
  pub pattern_from : Group → Algebra → List PatternTriple → Algebra
  pattern_from Group.Empty before run = join before (Bgp run)
  pattern_from (Group.Patterns patterns more) before run = pattern_from more before (run ++ patterns)
  pattern_from (Group.Alternatives groups more) before run = pattern_from more (join (join before (Bgp run)) (union_of groups)) []
  pattern_from (Group.Optional group more) before run =
      pattern_from more (LeftJoin (join before (Bgp run)) (pattern_from group (Bgp []) []) (all_of (conditions_in group))) []
  pattern_from (Group.Filter condition more) before run = pattern_from more before run

  -- groups joined by UNION, from the left
  pub union_of : Groups → Algebra
  union_of (Groups.Only group) = filtered (all_of (conditions_in group)) (pattern_from group (Bgp []) [])
  union_of (Groups.Union groups group) = Union (union_of groups) (filtered (all_of (conditions_in group)) (pattern_from group (Bgp []) []))

-- the algebra of a group
abbrev pub algebra_of : Group → Algebra
algebra_of group = filtered (all_of (conditions_in group)) (pattern_from group (Bgp []) [])

abbrev mutual
  -- the triple patterns of a group and of the groups in it, in their order
  pub patterns_in : Group → List PatternTriple
  patterns_in Group.Empty = []
  patterns_in (Group.Patterns patterns more) = patterns ++ patterns_in more
  patterns_in (Group.Alternatives groups more) = patterns_of groups ++ patterns_in more
  patterns_in (Group.Optional group more) = patterns_in group ++ patterns_in more
  patterns_in (Group.Filter condition more) = patterns_in more

  -- those of groups joined by UNION
  pub patterns_of : Groups → List PatternTriple
  patterns_of (Groups.Only group) = patterns_in group
  patterns_of (Groups.Union groups group) = patterns_of groups ++ patterns_in group

-- the variable at a position
abbrev pub variable_at : Place → List Var
variable_at (place.Var var) = var ∷ []
variable_at (place.Is term) = []

-- the variables of a triple pattern
abbrev pub variables_of : PatternTriple → List Var
variables_of pattern = variable_at pattern.subject ++ variable_at pattern.predicate ++ variable_at pattern.object

-- the columns: the variables behind SELECT, or for `*` those of the triple patterns, each once at its first place
abbrev pub columns_of : Option (List Var) → Group → List Var
columns_of (Some vars) group = firsts (λ a b. nat_eq a.0 b.0) vars
columns_of None group = firsts (λ a b. nat_eq a.0 b.0) (flat_map variables_of (patterns_in group))

-- an empty group is the empty BGP, and so is a group of one
example_empty : algebra_of (Group.Alternatives (Groups.Only Group.Empty) Group.Empty) ≡ Bgp []
example_empty = refl

-- two groups with an empty one between them are joined, and the empty one is gone
example_join : (a b : PatternTriple)
    → algebra_of (Group.Alternatives (Groups.Only (Group.Patterns (a ∷ []) Group.Empty)) (Group.Alternatives (Groups.Only Group.Empty) (Group.Patterns (b ∷ []) Group.Empty)))
    ≡ Join (Bgp (a ∷ [])) (Bgp (b ∷ []))
example_join a b = refl

-- a FILTER between two triple patterns does not part them
example_run : (a b : PatternTriple) (condition : Expr)
    → algebra_of (Group.Patterns (a ∷ []) (Group.Filter condition (Group.Patterns (b ∷ []) Group.Empty))) ≡ Filter condition (Bgp (a ∷ b ∷ []))
example_run a b condition = refl

-- the FILTER of an OPTIONAL is the condition of the LeftJoin
example_optional : (a b : PatternTriple) (condition : Expr)
    → algebra_of (Group.Patterns (a ∷ []) (Group.Optional (Group.Patterns (b ∷ []) (Group.Filter condition Group.Empty)) Group.Empty))
    ≡ LeftJoin (Bgp (a ∷ [])) (Bgp (b ∷ [])) (Some condition)
example_optional a b condition = refl
