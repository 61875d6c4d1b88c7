-- Parts of a pattern as they are evaluated: their rows, and what is left of the limit on the width.
use Rattle.std.specs.Prelude.{◌≡◌, ℕ, ◌+◌, ◌<◌, List, [], ◌∷◌, length, Option, ⊤}
use Rattle.std.specs.List.{IsDistinct}
use Rattle.m3_terms.specs.declared.term.Term.{Term}
use Rattle.m3_terms.specs.declared.triple.Triple.{Triple}
use Rattle.sparql_algebra.specs.declared.algebra.Algebra.{Algebra}
use Rattle.sparql_algebra.specs.declared.mapping.Binding.{Binding}
use Rattle.sparql_algebra.specs.Solutions.{RowList, solution_eq, AreRising}
use Rattle.sparql_algebra.specs.RowSets.{AreExactly, AreMoreThan}
use Rattle.sparql_algebra.specs.Width.{HasWidth}
use Rattle.pattern_join.specs.declared.fault.EvalFault.{EvalFault}
use Rattle.pattern_join.specs.declared.fault.EvalFault.TheVariants.{TooWide, NoMemory}
use Rattle.query_eval.specs.PartRows.{ArePartRows, row_count}

-- the rows of the first of some lists, which for the parts of a pattern are those of the whole pattern
abbrev pub first_rows : List RowList → List (List Binding)
first_rows [] = []
first_rows (list ∷ lists) = list.rows

-- the first list has exactly the rows that have a property, each once, and their number was taken off the room; others stand behind it
pub record AreTaken (before after : ℕ) (Holds : List Binding → Type 0) (others lists : List RowList) : Type 0 where
  pub own : RowList
  pub first : lists ≡ own ∷ others
  pub exactly : AreExactly Holds own.rows
  pub distinct : IsDistinct solution_eq own.rows
  pub rising : AreRising own.rows
  pub room : after + length own.rows ≡ before

-- why the rows that have a property were not taken: they are more than the room, or memory ran out
abbrev pub WhyNotTaken : ℕ → (List Binding → Type 0) → EvalFault → Type 0
WhyNotTaken room Holds TooWide = AreMoreThan room Holds
WhyNotTaken room Holds NoMemory = ⊤

-- lists of rows are those of the parts of a pattern, and its width, which is how many they are, was taken off the room
pub record AreEvaluated (terms : ℕ → Option Term) (graph : List Triple) (pattern : Algebra) (before after : ℕ) (lists : List RowList) : Type 0 where
  pub rows : ArePartRows terms graph pattern lists
  pub count : after + row_count lists ≡ before
  pub room : (width : ℕ) → HasWidth pattern graph width → after + width ≡ before

-- why a pattern was not evaluated: its width is greater than the room, or memory ran out
abbrev pub WhyNotEvaluated : List Triple → Algebra → ℕ → EvalFault → Type 0
WhyNotEvaluated graph pattern room TooWide = (width : ℕ) → HasWidth pattern graph width → room < width
WhyNotEvaluated graph pattern room NoMemory = ⊤
