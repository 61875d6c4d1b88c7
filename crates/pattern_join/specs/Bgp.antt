-- Rows of numbers as the solutions of a basic graph pattern, and why there are none.
use Rattle.std.specs.Prelude.{◌≡◌, ℕ, List, [], ◌∷◌, Contains, Option, slice_get, ⊤, refl}
use Rattle.m3_terms.specs.declared.term.Term.{Term}
use Rattle.m3_terms.specs.declared.term.Term.TheVariants.{Uri}
use Rattle.sparql_algebra.specs.declared.gather.RowsFault.{RowsFault}
use Rattle.sparql_algebra.specs.declared.gather.RowsFault.TheVariants.{TooMany, NoMemory as OutOfMemory}
use Rattle.sparql_algebra.specs.declared.mapping.Binding.{Binding}
use Rattle.sparql_algebra.specs.RowSets.{AreMoreThan}
use Rattle.sparql_algebra.specs.Solutions.{binding}
use Rattle.sparql_algebra.specs.TermSolutions.{Solution, bind, solution_in, HasTerms}
use Rattle.pattern_join.specs.declared.fault.EvalFault.{EvalFault}
use Rattle.pattern_join.specs.declared.fault.EvalFault.TheVariants.{TooWide, NoMemory}

-- a row stands for a solution that has a property: each of its numbers has a term
abbrev pub StandsFor : (ℕ → Option Term) → (Solution → Type 0) → List Binding → Type 0
StandsFor terms Holds row = HasTerms terms row × Holds (solution_in terms row)

-- the rows are the solutions that have a property: each row stands for one, and some row stands for each
pub record AreSolutions (terms : ℕ → Option Term) (Holds : Solution → Type 0) (rows : List (List Binding)) : Type 0 where
  pub each : (row : List Binding) → Contains rows row → StandsFor terms Holds row
  pub all : (solution : Solution) → Holds solution → (row : List Binding) × Contains rows row × (solution_in terms row ≡ solution)

-- a fault of a list of rows, as that of a query
abbrev pub fault_of : RowsFault → EvalFault
fault_of TooMany = TooWide
fault_of OutOfMemory = NoMemory

-- why the rows that have a property are not given: there are more than 65,536, or memory ran out
abbrev pub WhyNoRows : (List Binding → Type 0) → EvalFault → Type 0
WhyNoRows Holds TooWide = AreMoreThan 65536 Holds
WhyNoRows Holds NoMemory = ⊤

-- in a table that has one uri under 0, the row that binds variable 1 to 0 stands for the solution that binds it to the uri
example_stands : StandsFor (slice_get (Uri (97 ∷ []) ∷ [])) (λ solution. solution ≡ bind 1 (Uri (97 ∷ [])) ∷ []) (binding 1 0 ∷ [])
example_stands = ((refl, tt), refl)
