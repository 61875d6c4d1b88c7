-- The terms that a graph pattern names, in its triple patterns and in its conditions.
use Rattle.std.specs.Prelude.{◌≡◌, List, [], ◌∷◌, ◌++◌, flat_map, Option, Some, None, refl}
use Rattle.m3_terms.specs.declared.term.Term.{Term}
use Rattle.m3_terms.specs.declared.term.Term.TheVariants.{Uri, Literal}
use Rattle.sparql_algebra.specs.declared.expr.Operand.{Operand, Var as OperandVar, Is as OperandIs, Str', more_of-Operand}
use Rattle.sparql_algebra.specs.declared.expr.Expr.{Expr, more_of-Expr, Or', And', Not', Value, Compare, Bound, IsIri, IsLiteral, SameTerm, Contains, StartsWith}
use Rattle.sparql_algebra.specs.declared.expr.Compare.TheVariants as sign
use Rattle.sparql_algebra.specs.declared.pattern.Place.{Place}
use Rattle.sparql_algebra.specs.declared.pattern.Place.TheVariants.{Var, Is}
use Rattle.sparql_algebra.specs.declared.pattern.PatternTriple.{PatternTriple}
use Rattle.sparql_algebra.specs.declared.algebra.Algebra.{Algebra, more_of-Algebra, end_of-Algebra, Bgp, Join', Union', LeftJoin', Filter'}

-- the term of a position, unless it is a variable
abbrev pub of_place : Place → List Term
of_place (Var var) = []
of_place (Is term) = term ∷ []

-- the terms of a triple pattern
abbrev pub of_triple : PatternTriple → List Term
of_triple pattern = of_place pattern.subject ++ (of_place pattern.predicate ++ of_place pattern.object)

-- the term of an operand, unless it is a variable
abbrev pub of_operand : Operand → List Term
of_operand (OperandVar var) = []
of_operand (OperandIs term) = term ∷ []
of_operand (Str' _ (more_of-Operand operand _)) = of_operand operand

-- the terms of a condition
abbrev pub of_condition : Expr → List Term
of_condition (Or' _ (more_of-Expr left _) _ (more_of-Expr right _)) = of_condition left ++ of_condition right
of_condition (And' _ (more_of-Expr left _) _ (more_of-Expr right _)) = of_condition left ++ of_condition right
of_condition (Not' _ (more_of-Expr inner _)) = of_condition inner
of_condition (Value operand) = of_operand operand
of_condition (Compare sign left right) = of_operand left ++ of_operand right
of_condition (Bound var) = []
of_condition (IsIri operand) = of_operand operand
of_condition (IsLiteral operand) = of_operand operand
of_condition (SameTerm left right) = of_operand left ++ of_operand right
of_condition (Contains left right) = of_operand left ++ of_operand right
of_condition (StartsWith left right) = of_operand left ++ of_operand right

-- the terms of a condition that there may be
abbrev pub of_option : Option Expr → List Term
of_option None = []
of_option (Some condition) = of_condition condition

-- the terms of a graph pattern, filters included
abbrev pub constants_of : Algebra → List Term
constants_of (Bgp patterns) = flat_map of_triple patterns
constants_of (Join' _ (more_of-Algebra left _) _ (more_of-Algebra right _)) = constants_of left ++ constants_of right
constants_of (Union' _ (more_of-Algebra left _) _ (more_of-Algebra right _)) = constants_of left ++ constants_of right
constants_of (LeftJoin' _ (more_of-Algebra left _) _ (more_of-Algebra right _) condition) = constants_of left ++ (constants_of right ++ of_option condition)
constants_of (Filter' condition _ (more_of-Algebra inner _)) = constants_of inner ++ of_condition condition

-- the triple pattern `?0 p "x"` under the condition `?0 != a` names three terms, in this order
example_constants : constants_of (Filter' (Compare sign.NotEqual (OperandVar (record { 0 = 0 })) (OperandIs (Uri (97 ∷ [])))) tt (more_of-Algebra (Bgp (record { subject = Var (record { 0 = 0 }); predicate = Is (Uri (112 ∷ [])); object = Is (Literal (120 ∷ [])) } ∷ [])) end_of-Algebra))
    ≡ Uri (112 ∷ []) ∷ Literal (120 ∷ []) ∷ Uri (97 ∷ []) ∷ []
example_constants = refl
