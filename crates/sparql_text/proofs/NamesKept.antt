-- The variables of a group's algebra have names where those of the group have.
use Rattle.std.proofs.Common.{ℕ, Bool, true, false, cond, List, [], ◌∷◌, ◌++◌, Option, Some, None}
use Rattle.std.specs.Prelude.{fold}
use Rattle.std.specs.List.{AllByRecursion}
use Rattle.sparql_algebra.specs.declared.pattern.PatternTriple.{PatternTriple}
use Rattle.sparql_algebra.specs.declared.expr.Expr.{Expr}
use Rattle.sparql_algebra.specs.declared.expr.Expr.TheVariants as expr
use Rattle.sparql_algebra.specs.declared.algebra.Algebra.{Algebra, Bgp}
use Rattle.sparql_algebra.specs.declared.algebra.Algebra.TheVariants.{Join, LeftJoin}
use Rattle.sparql_algebra.specs.Valid.{HasNamedTriple, HasNamedExpr, HasNamedCondition, HasNamedPattern}
use Rattle.sparql_text.specs.Groups.{Group, Groups}
use Rattle.sparql_algebra.specs.declared.algebra.Algebra.TheBlock.{hidden-the_row-Algebra-0}
use Rattle.sparql_algebra.specs.declared.expr.Expr.TheBlock.{hidden-the_row-Expr-0}
use denote.Hole.Carrier.{hidden}
use Rattle.sparql_text.specs.Translation.{is_empty_bgp, join, conditions_in, all_of, filtered, pattern_from, union_of, algebra_of, patterns_in, patterns_of}
use Rattle.sparql_text.proofs.Weights.{HasNamedGroup, HasNamedGroups}

-- what holds of each of two lists
pub all_append : {X : Type 0} (P : X → Type 0) (xs ys : List X) → AllByRecursion P xs → AllByRecursion P ys → AllByRecursion P (xs ++ ys)
all_append P [] ys a b = b
all_append P (x ∷ xs) ys a b = (a.0, all_append P xs ys a.1 b)

-- the variables of a Join have names where those of its sides have
join_named : (names : ℕ) (a b : Algebra) → HasNamedPattern names a → HasNamedPattern names b → HasNamedPattern names (join a b)
unfolding hidden-the_row-Algebra-0 hidden
join_named names a b ha hb = go (is_empty_bgp a) (is_empty_bgp b)
  where
    go : (x y : Bool) → HasNamedPattern names (cond x b (cond y a (Join a b)))
    go true y = hb
    go false true = ha
    go false false = (ha, hb)

-- names of the conditions of a group
conditions_named : (names : ℕ) (group : Group) → HasNamedGroup names group → AllByRecursion (HasNamedExpr names) (conditions_in group)
conditions_named names Group.Empty h = tt
conditions_named names (Group.Patterns patterns more) h = conditions_named names more h.1
conditions_named names (Group.Alternatives groups more) h = conditions_named names more h.1
conditions_named names (Group.Optional group more) h = conditions_named names more h.1
conditions_named names (Group.Filter condition more) h = (h.0, conditions_named names more h.1)

joined_named : (names : ℕ) (conditions : List Expr) (first : Expr) → HasNamedExpr names first → AllByRecursion (HasNamedExpr names) conditions
    → HasNamedExpr names (fold (λ a b. expr.And a b) first conditions)
unfolding hidden-the_row-Expr-0 hidden
joined_named names [] first h hs = h
joined_named names (condition ∷ conditions) first h hs = joined_named names conditions (expr.And first condition) (h, hs.0) hs.1

all_named : (names : ℕ) (conditions : List Expr) → AllByRecursion (HasNamedExpr names) conditions → HasNamedCondition names (all_of conditions)
all_named names [] hs = tt
all_named names (condition ∷ conditions) hs = joined_named names conditions condition hs.0 hs.1

filtered_named : (names : ℕ) (condition : Option Expr) (pattern : Algebra) → HasNamedCondition names condition → HasNamedPattern names pattern
    → HasNamedPattern names (filtered condition pattern)
unfolding hidden-the_row-Algebra-0 hidden
filtered_named names None pattern h p = p
filtered_named names (Some condition) pattern h p = (h, p)

whole_named : (names : ℕ) (group : Group) → HasNamedGroup names group → HasNamedPattern names (pattern_from group (Bgp []) []) → HasNamedPattern names (algebra_of group)
whole_named names group h p =
    filtered_named names (all_of (conditions_in group)) (pattern_from group (Bgp []) []) (all_named names (conditions_in group) (conditions_named names group h)) p

mutual
  unfolding hidden-the_row-Algebra-0 hidden

  -- names of the algebra of a group
  pattern_named : (names : ℕ) (group : Group) (before : Algebra) (run : List PatternTriple) → HasNamedGroup names group → HasNamedPattern names before
      → AllByRecursion (HasNamedTriple names) run → HasNamedPattern names (pattern_from group before run)
  pattern_named names Group.Empty before run h b r = join_named names before (Bgp run) b r
  pattern_named names (Group.Patterns patterns more) before run h b r =
      pattern_named names more before (run ++ patterns) h.1 b (all_append (HasNamedTriple names) run patterns r h.0)
  pattern_named names (Group.Alternatives groups more) before run h b r =
      pattern_named names more (join (join before (Bgp run)) (union_of groups)) [] h.1
      (join_named names (join before (Bgp run)) (union_of groups) (join_named names before (Bgp run) b r) (groups_named names groups h.0)) tt
  pattern_named names (Group.Optional group more) before run h b r =
      pattern_named names more (LeftJoin (join before (Bgp run)) (pattern_from group (Bgp []) []) (all_of (conditions_in group))) [] h.1 (
        join_named names before (Bgp run) b r,
        pattern_named names group (Bgp []) [] h.0 tt tt,
        all_named names (conditions_in group) (conditions_named names group h.0),
      ) tt
  pattern_named names (Group.Filter condition more) before run h b r = pattern_named names more before run h.1 b r

  -- and of groups joined by UNION
  groups_named : (names : ℕ) (groups : Groups) → HasNamedGroups names groups → HasNamedPattern names (union_of groups)
  groups_named names (Groups.Only group) h = whole_named names group h (pattern_named names group (Bgp []) [] h tt tt)
  groups_named names (Groups.Union groups group) h =
      (groups_named names groups h.0, whole_named names group h.1 (pattern_named names group (Bgp []) [] h.1 tt tt))

-- the variables of a group's algebra have names where those of the group have
pub algebra_named : (names : ℕ) (group : Group) → HasNamedGroup names group → HasNamedPattern names (algebra_of group)
algebra_named names group h = whole_named names group h (pattern_named names group (Bgp []) [] h tt tt)

mutual
  -- and so have those of its triple patterns
  pub patterns_named : (names : ℕ) (group : Group) → HasNamedGroup names group → AllByRecursion (HasNamedTriple names) (patterns_in group)
  patterns_named names Group.Empty h = tt
  patterns_named names (Group.Patterns patterns more) h = all_append (HasNamedTriple names) patterns (patterns_in more) h.0 (patterns_named names more h.1)
  patterns_named names (Group.Alternatives groups more) h =
      all_append (HasNamedTriple names) (patterns_of groups) (patterns_in more) (all_patterns_named names groups h.0) (patterns_named names more h.1)
  patterns_named names (Group.Optional group more) h =
      all_append (HasNamedTriple names) (patterns_in group) (patterns_in more) (patterns_named names group h.0) (patterns_named names more h.1)
  patterns_named names (Group.Filter condition more) h = patterns_named names more h.1

  all_patterns_named : (names : ℕ) (groups : Groups) → HasNamedGroups names groups → AllByRecursion (HasNamedTriple names) (patterns_of groups)
  all_patterns_named names (Groups.Only group) h = patterns_named names group h
  all_patterns_named names (Groups.Union groups group) h =
      all_append (HasNamedTriple names) (patterns_of groups) (patterns_in group) (all_patterns_named names groups h.0) (patterns_named names group h.1)
