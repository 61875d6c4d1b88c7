-- What follows from the definitions of standing queries.
use Rattle.std.specs.Prelude.{◌≡◌, ◌↔◌, ℕ, List, Contains, Option, Some}
use Rattle.m3_terms.specs.TermTable.{NamesOnce}
use Rattle.m3_terms.specs.declared.term.Term.{Term}
use Rattle.sparql_algebra.specs.declared.mapping.Binding.{Binding}
use Rattle.sparql_algebra.specs.RowSets.{AreExactly}
use Rattle.sparql_algebra.specs.Solutions.{RowList}
use Rattle.triple_index.specs.declared.triple.IdTriple.{IdTriple}
use Rattle.pattern_join.specs.Meaning.{AreMeant}
use Rattle.delta_eval.specs.declared.changed.Changed.{Changed}
use Rattle.delta_eval.specs.Changed.{LeadsTo, IsChangeOf, IsDifference}
use Rattle.delta_eval.specs.Standing.{Kept, Changes, StandsOver, KeepsRows, IsAfter}
use Rattle.delta_eval.specs.Wanted.{IsWanted}

-- each number that has a term by the one table has it by the other
abbrev pub HasAllOf : (ℕ → Option Term) → (ℕ → Option Term) → Type 0
HasAllOf old new = (n : ℕ) (term : Term) → old n ≡ Some term → new n ≡ Some term

-- what stands over triples stands over them as the table grows, where the triples are meant
abbrev pub TablesMayGrow : Type 0
TablesMayGrow = (old new : ℕ → Option Term) → HasAllOf old new → (triples : List IdTriple) → AreMeant old triples
    → (standing : Kept) → StandsOver old triples standing → StandsOver new triples standing

-- what stands over triples stands over them while it keeps its rows, whatever room there is
abbrev pub RoomMayChange : Type 0
RoomMayChange = (terms : ℕ → Option Term) (triples : List IdTriple) (old new : Kept) → KeepsRows old new → StandsOver terms triples old → StandsOver terms triples new

-- what a step makes of a standing query that keeps the rows of another, it makes of that one
abbrev pub StepsOutlastRoom : Type 0
StepsOutlastRoom = (old kept : Kept) (step : Changes) (new : Kept) → KeepsRows old kept → IsAfter kept step new → IsAfter old step new

-- where no two numbers have one term, the answer of what stands over triples is exactly the rows that are wanted
abbrev pub AnswersAreWanted : Type 0
AnswersAreWanted = (terms : ℕ → Option Term) → NamesOnce terms → (triples : List IdTriple) (standing : Kept) → StandsOver terms triples standing
    → AreExactly (IsWanted terms standing.wanted triples) standing.answer.rows

-- the difference of two lists is a change of the one, and leads to the other
abbrev pub DifferencesLead : Type 0
DifferencesLead = (old : RowList) (change : Changed) (new : RowList) → IsDifference old change new → IsChangeOf old change × LeadsTo old change new

-- no row is both added by a change and obsolete
abbrev pub ChangesAreApart : Type 0
ChangesAreApart = (old : RowList) (change : Changed) → IsChangeOf old change → (row : List Binding) → Contains change.added.rows row → Contains change.obsolete.rows row → ⊥

-- a change leads to one set of rows
abbrev pub ChangesLeadOnce : Type 0
ChangesLeadOnce = (old : RowList) (change : Changed) (one other : RowList) → LeadsTo old change one → LeadsTo old change other
    → (row : List Binding) → Contains one.rows row ↔ Contains other.rows row
