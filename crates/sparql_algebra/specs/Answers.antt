-- The answer to a query over a graph: the projections of its solutions to the columns (SPARQL 1.1, sections 18.2.5 and 18.5, Project and
-- Distinct), in the order of rows.
use Rattle.std.specs.Prelude.{◌≡◌, ◌↔◌, List, [], ◌∷◌, Option, Some, None, Contains, map, refl}
use Rattle.std.specs.List.Sorted.{IsStrictlySortedBy}
use Rattle.m3_terms.specs.Order.{row_cmp}
use Rattle.m3_terms.specs.declared.term.Term.{Term}
use Rattle.m3_terms.specs.declared.term.Term.TheVariants.{Uri}
use Rattle.m3_terms.specs.declared.triple.Triple.{Triple}
use Rattle.sparql_algebra.specs.declared.var.Var.{Var}
use Rattle.sparql_algebra.specs.declared.algebra.Query.{Query}
use Rattle.sparql_algebra.specs.TermSolutions.{Solution, bind, term_at}
use Rattle.sparql_algebra.specs.Evaluation.{IsSolution}

-- the cells of a solution, one for each column in its order; a cell is empty where its variable is unbound
abbrev pub cells : List Var → Solution → List (Option Term)
cells columns solution = map (term_at solution) columns

-- a row is the projection of some solution of the query
abbrev pub IsProjected : Query → List Triple → List (Option Term) → Type 0
IsProjected query graph row = (solution : Solution) × IsSolution query.pattern graph solution × (row ≡ cells query.columns solution)

-- the rows of the answer: the projections of the solutions, in their order and each once; the names of the columns stand in the query
pub record IsAnswer (query : Query) (graph : List Triple) (rows : List (List (Option Term))) : Type 0 where
  pub ordered : IsStrictlySortedBy row_cmp rows
  pub exactly : (row : List (Option Term)) → Contains rows row ↔ IsProjected query graph row

-- a column whose variable is unbound gives an empty cell, and a variable that is no column gives none
example_cells : cells (record { 0 = 2 } ∷ record { 0 = 1 } ∷ []) (bind 0 (Uri (97 ∷ [])) ∷ bind 1 (Uri (98 ∷ [])) ∷ []) ≡ None ∷ Some (Uri (98 ∷ [])) ∷ []
example_cells = refl
