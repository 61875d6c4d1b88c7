-- Which rows of numbers answer a query over a graph.
use Rattle.std.specs.Prelude.{◌≡◌, ℕ, List, Contains, Option}
use Rattle.m3_terms.specs.declared.term.Term.{Term}
use Rattle.m3_terms.specs.declared.triple.Triple.{Triple}
use Rattle.sparql_algebra.specs.declared.algebra.Query.{Query}
use Rattle.sparql_algebra.specs.declared.mapping.Binding.{Binding}
use Rattle.sparql_algebra.specs.TermSolutions.{Solution, solution_in, HasTerms}
use Rattle.sparql_algebra.specs.Projected.{projected}
use Rattle.sparql_algebra.specs.RowSets.{IsProjectedRow}
use Rattle.sparql_algebra.specs.Evaluation.{IsSolution}
use Rattle.pattern_join.specs.Bgp.{StandsFor}

-- a row has terms and stands for a solution, and its projection is one of some rows
pub record IsProjectedInto (terms : ℕ → Option Term) (query : Query) (rows : List (List Binding)) (solution : Solution) : Type 0 where
  pub full : List Binding
  pub has_terms : HasTerms terms full
  pub stands : solution_in terms full ≡ solution
  pub there : Contains rows (projected query.columns full)

-- the rows answer a query over a graph: each is the projection of a row that stands for a solution, and each solution is
-- projected to one of them (SPARQL 1.1, section 18.5, Project and Distinct)
pub record AreAnswer (terms : ℕ → Option Term) (query : Query) (graph : List Triple) (rows : List (List Binding)) : Type 0 where
  pub each : (row : List Binding) → Contains rows row → IsProjectedRow query.columns (StandsFor terms (IsSolution query.pattern graph)) row
  pub all : (solution : Solution) → IsSolution query.pattern graph solution → IsProjectedInto terms query rows solution
