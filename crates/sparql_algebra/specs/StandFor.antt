-- What a list of solutions by numbers stands for in a table of terms: all solutions that have a property.
use Rattle.std.specs.Prelude.{◌≡◌, ℕ, List, Contains, Option}
use Rattle.m3_terms.specs.declared.term.Term.{Term}
use Rattle.sparql_algebra.specs.declared.mapping.Binding.{Binding}
use Rattle.sparql_algebra.specs.Merged.{IsRising}
use Rattle.sparql_algebra.specs.TermSolutions.{Solution, id_var, HasTerms, solution_in}

-- the rows stand, in a table of terms, for exactly the solutions that have a property
pub record StandFor (terms : ℕ → Option Term) (rows : List (List Binding)) (Holds : Solution → Type 0) : Type 0 where
  pub rising : (row : List Binding) → Contains rows row → IsRising id_var row
  pub named : (row : List Binding) → Contains rows row → HasTerms terms row
  pub sound : (row : List Binding) → Contains rows row → Holds (solution_in terms row)
  pub whole : (solution : Solution) → Holds solution → (row : List Binding) × Contains rows row × (solution ≡ solution_in terms row)
