-- The width of a graph pattern over a graph: the sum, over all its parts, of the number of distinct solutions of each.
-- A boxed pattern p is spelled `_ (more_of-Algebra p _)`.
use Rattle.std.specs.Prelude.{◌≡◌, ℕ, ◌↔◌, List, [], ◌∷◌, ◌++◌, length, sum, Contains, ⊤}
use Rattle.std.specs.List.{IsDistinct}
use Rattle.m3_terms.specs.declared.triple.Triple.{Triple}
use Rattle.sparql_algebra.specs.declared.algebra.Algebra.{Algebra, more_of-Algebra, Bgp, Join', Union', LeftJoin', Filter'}
use Rattle.sparql_algebra.specs.TermSolutions.{Solution, same_solution}
use Rattle.sparql_algebra.specs.Evaluation.{IsSolution}

-- the solutions that a property holds of are these, each once
pub record AreAll (Holds : Solution → Type 0) (solutions : List Solution) : Type 0 where
  pub distinct : IsDistinct same_solution solutions
  pub exactly : (solution : Solution) → Contains solutions solution ↔ Holds solution

-- so many distinct solutions has a pattern over a graph
abbrev pub HasCount : Algebra → List Triple → ℕ → Type 0
HasCount pattern graph count = (solutions : List Solution) × AreAll (IsSolution pattern graph) solutions × (length solutions ≡ count)

-- the parts of a pattern: itself, and the parts of its sides
abbrev pub parts : Algebra → List Algebra
parts (Bgp patterns) = Bgp patterns ∷ []
parts (Join' a (more_of-Algebra left p) b (more_of-Algebra right q)) =
    Join' a (more_of-Algebra left p) b (more_of-Algebra right q) ∷ (parts left ++ parts right)
parts (Union' a (more_of-Algebra left p) b (more_of-Algebra right q)) =
    Union' a (more_of-Algebra left p) b (more_of-Algebra right q) ∷ (parts left ++ parts right)
parts (LeftJoin' a (more_of-Algebra left p) b (more_of-Algebra right q) condition) =
    LeftJoin' a (more_of-Algebra left p) b (more_of-Algebra right q) condition ∷ (parts left ++ parts right)
parts (Filter' condition a (more_of-Algebra inner p)) = Filter' condition a (more_of-Algebra inner p) ∷ parts inner

-- these are the numbers of distinct solutions of some patterns, in their order
abbrev pub HaveCounts : List Triple → List Algebra → List ℕ → Type 0
HaveCounts graph [] [] = ⊤
HaveCounts graph [] (count ∷ counts) = ⊥
HaveCounts graph (pattern ∷ patterns) [] = ⊥
HaveCounts graph (pattern ∷ patterns) (count ∷ counts) = HasCount pattern graph count × HaveCounts graph patterns counts

-- the width of a pattern over a graph: the sum of the numbers of distinct solutions of its parts (measure of this broker)
abbrev pub HasWidth : Algebra → List Triple → ℕ → Type 0
HasWidth pattern graph width = (counts : List ℕ) × HaveCounts graph (parts pattern) counts × (width ≡ sum counts)
