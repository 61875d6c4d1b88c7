-- The rows of the parts of a pattern.
use Rattle.std.specs.Prelude.{◌≡◌, ℕ, ◌≤◌, List, [], ◌∷◌, length, sum_by, Option, refl}
use Rattle.std.specs.List.{AllZip}
use Rattle.m3_terms.specs.declared.term.Term.{Term}
use Rattle.m3_terms.specs.declared.triple.Triple.{Triple}
use Rattle.sparql_algebra.specs.declared.expr.Expr.{Bound}
use Rattle.sparql_algebra.specs.declared.algebra.Algebra.{Algebra, more_of-Algebra, end_of-Algebra, Bgp, Filter', Union'}
use Rattle.sparql_algebra.specs.declared.pattern.Place.TheVariants.{Var}
use Rattle.sparql_algebra.specs.Solutions.{RowList, AreRising, binding}
use Rattle.sparql_algebra.specs.Valid.{HasNamedPattern}
use Rattle.sparql_algebra.specs.Evaluation.{IsSolution}
use Rattle.sparql_algebra.specs.Width.{parts}
use Rattle.pattern_join.specs.Bgp.{AreSolutions}

-- each variable of a pattern is among so many names, of which there are at most 16
pub record HasFewNames (pattern : Algebra) : Type 0 where
  pub names : ℕ
  pub few : names ≤ 16
  pub named : HasNamedPattern names pattern

-- rows are the solutions of a pattern over a graph, and in each the variables rise
pub record AreRowsOf (terms : ℕ → Option Term) (graph : List Triple) (pattern : Algebra) (list : RowList) : Type 0 where
  pub solutions : AreSolutions terms (IsSolution pattern graph) list.rows
  pub rising : AreRising list.rows

-- lists of rows are those of the parts of a pattern, one list for each part in their order
abbrev pub ArePartRows : (ℕ → Option Term) → List Triple → Algebra → List RowList → Type 0
ArePartRows terms graph pattern lists = AllZip (AreRowsOf terms graph) (parts pattern) lists

-- how many rows some lists have together
abbrev pub row_count : List RowList → ℕ
row_count lists = sum_by (λ list. length list.rows) lists

-- two rows, none and one are three rows
example_row_count : row_count
    (record { rows = (binding 0 7 ∷ []) ∷ [] ∷ []; room = 0 } ∷ record { rows = []; room = 9 } ∷ record { rows = (binding 1 7 ∷ []) ∷ []; room = 0 } ∷ [])
    ≡ 3
example_row_count = refl

-- the empty pattern, the pattern `?x ?y ?z`, their union, and the union under a FILTER
abbrev nothing : Algebra
nothing = Bgp []

abbrev everything : Algebra
everything = Bgp (record { subject = Var (record { 0 = 0 }); predicate = Var (record { 0 = 1 }); object = Var (record { 0 = 2 }) } ∷ [])

abbrev either : Algebra
either = Union' tt (more_of-Algebra nothing end_of-Algebra) tt (more_of-Algebra everything end_of-Algebra)

abbrev filtered : Algebra
filtered = Filter' (Bound (record { 0 = 0 })) tt (more_of-Algebra either end_of-Algebra)

-- the whole pattern is the first part, and the left side of the union comes before the right one
example_order : parts filtered ≡ filtered ∷ either ∷ nothing ∷ everything ∷ []
example_order = refl
