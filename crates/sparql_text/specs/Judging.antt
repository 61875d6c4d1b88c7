-- What the tokens of a text come to, before its query is built.
use Rattle.std.specs.Prelude.{◌≡◌, ℕ, ◌+◌, ◌≤◌, Bool, List, [], Some, length}
use Rattle.sparql_algebra.specs.declared.algebra.Query.{Query}
use Rattle.sparql_text.specs.declared.fault.ReadFault.TheVariants as fault
use Rattle.sparql_text.specs.declared.judging.Judged.{Judged}
use Rattle.sparql_text.specs.declared.judging.Judgement.{Judgement}
use Rattle.sparql_text.specs.declared.judging.Judged.TheVariants.{Fine, NotInProfile, OverLimit}
use Rattle.sparql_text.specs.declared.past.Past.{Past}
use Rattle.sparql_text.specs.declared.symbol.Symbol.{Symbol}
use Rattle.sparql_text.specs.Lexing.{Placed, Lexes}
use Rattle.sparql_text.specs.Machine.{stack_behind}
use Rattle.sparql_text.specs.Scope.{Declaration, names_of, declarations_of}
use Rattle.sparql_text.specs.Naming.{texts, declarations}
use Rattle.sparql_text.specs.Faults.{AreFine, SaysWith, Refuses, alone}
use Rattle.sparql_text.specs.Past.{IsPast}

-- the text says the query, which may lack DISTINCT, and these are the names of its variables and its declarations
pub record IsFine (distinct : Bool) (text : List ℕ) (query : Query) (names : List (List ℕ)) (declared : List Declaration) : Type 0 where
  pub says : SaysWith distinct text query
  pub names_are : names ≡ names_of (alone says.tokens)
  pub declared_are : declared ≡ declarations_of (alone says.tokens)

-- a text says a query, or its first fault stands at a place
abbrev pub IsJudgedSo : List ℕ → List (List ℕ) → List Declaration → Judged → Type 0
IsJudgedSo text names declared (Fine distinct) = (query : Query) × IsFine distinct text query names declared
IsJudgedSo text names declared (NotInProfile place) = Refuses text (fault.NotInProfile place)
IsJudgedSo text names declared (OverLimit which place) = Refuses text (fault.OverLimit which place)

-- the same with the names and declarations that are pointed to
abbrev pub IsJudged : List ℕ → Judgement → Type 0
IsJudged text judgement = IsJudgedSo text (texts judgement.variables.items) (declarations judgement.declared.items) judgement.judged

-- some tokens of the text were found fine, these bytes are left of it, these symbols are to come, and this is kept
pub record AreJudged (text left : List ℕ) (stack : List Symbol) (past : Past) : Type 0 where
  pub tokens : List Placed
  pub lexes : Lexes (length text) text tokens left
  pub within : length tokens + length left ≤ length text
  pub stands : stack_behind (alone tokens) ≡ Some stack
  pub kept : IsPast (alone tokens) past
  pub fine : AreFine [] tokens
