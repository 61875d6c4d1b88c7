-- How far the machine has read the bytes of an unfinished message, and what it does with more.
use Rattle.std.specs.Prelude.{◌≡◌, ◌≢◌, ◌⊎◌, ℕ, ◌-◌, ◌<◌, ◌≤◌, List, [], ◌∷◌, ◌++◌, length, take, drop, Option, Some, None}
use Rattle.std.specs.List.{AllByRecursion}
use Rattle.ssap_grammar.specs.Characters.{IsWhite}
use Rattle.ssap_machine.specs.Machine.{Walks, IsStuck}
use Rattle.ssap_machine.specs.Progress.{IsPending}
use Rattle.ssap_machine.specs.declared.symbol.Symbol.{Symbol}
use Rattle.ssap_machine.specs.declared.symbol.Symbol.TheVariants.{Message}
use Rattle.ssap_grammar.specs.Laws.{IsDeadEnd}
use Rattle.ssap_decode.specs.Decoding.{message_limit, BeginMessage}
use Rattle.ssap_decode.specs.declared.framed.Stop.{Stop}
use Rattle.ssap_decode.specs.declared.framed.Stop.TheVariants.{Syntax, TooLong, Cut}
use Rattle.ssap_decode.specs.declared.decoder.Fault.{Fault}
use Rattle.ssap_decode.specs.declared.decoder.Fault.TheVariants as fault
use Rattle.ssap_decode.specs.declared.walk.Halt.{Halt}
use Rattle.ssap_decode.specs.declared.walk.Halt.TheVariants.{Whole, Half, Stuck}
use Rattle.ssap_decode.specs.declared.walk.Walked.{Walked}

-- no lexeme of the first symbol goes on from what is pending with the first of these bytes
abbrev pub Sticks : List Symbol → List ℕ → List ℕ → Type 0
Sticks stack pending [] = ⊥
Sticks stack pending (byte ∷ rest) = IsStuck stack (pending ++ byte ∷ [])

-- where a walk halts: the message is whole, or the bytes end, or no lexeme goes on with the next one
abbrev pub Halts : List Symbol → List ℕ → List ℕ → Halt → Type 0
Halts stack pending rest Whole = (stack ≡ []) × (pending ≡ [])
Halts stack pending rest Half = (stack ≢ []) × IsPending stack pending × (rest ≡ [])
Halts stack pending rest Stuck = (stack ≢ []) × IsPending stack pending × Sticks stack pending rest

-- the machine walks as far as it can: some lexemes, and then a prefix of one
pub record Reads (stack : List Symbol) (bytes : List ℕ) (walked : Walked) : Type 0 where
  pub count : walked.count ≤ walked.reach
  pub reach : walked.reach ≤ length bytes
  pub walks : Walks stack (take walked.count bytes) walked.stack
  pub halts : Halts walked.stack (drop walked.count (take walked.reach bytes)) (drop walked.reach bytes) walked.halt

-- the machine has read so many of the bytes of an unfinished message, and the others begin a lexeme
pub record IsUnfinished (message : List ℕ) (stack : List Symbol) (read : ℕ) : Type 0 where
  pub within : read ≤ length message
  pub walks : Walks (Message ∷ []) (take read message) stack
  pub goes : stack ≢ []
  pub pending : IsPending stack (drop read message)

-- what a decoder keeps
pub record IsKept (message : List ℕ) (stack : List Symbol) (read taken : ℕ) : Type 0 where
  pub unfinished : IsUnfinished message stack read
  pub fits : length message ≤ message_limit
  pub inside : length message ≤ taken

-- so many bytes are white space, and where none of a message was read all of it in front
pub record AreSpaces (message bytes : List ℕ) (count : ℕ) : Type 0 where
  pub within : count ≤ length bytes
  pub each : AllByRecursion IsWhite (take count bytes)
  pub between : (count ≡ 0) ⊎ (message ≡ [])
  pub solid : message ≡ [] → (byte : ℕ) (more : List ℕ) → drop count bytes ≡ byte ∷ more → ¬ (IsWhite byte)

-- the fault that stands at a byte behind an unfinished message, or none: no message goes on with it, or one does and has as
-- many bytes as it may
abbrev pub FaultAt : List ℕ → ℕ → Option Fault → Type 0
FaultAt message byte (Some fault.Syntax) = IsDeadEnd message byte
FaultAt message byte (Some fault.TooLong) = (length message ≡ message_limit) × BeginMessage (message ++ byte ∷ [])
FaultAt message byte (Some fault.Cut) = ⊥
FaultAt message byte None = (length message < message_limit) × BeginMessage (message ++ byte ∷ [])

-- the stop that a fault is in a decoder that has taken so many bytes, of which so many are unread
abbrev pub stop_of : ℕ → ℕ → Fault → Stop
stop_of taken unread fault.Syntax = Syntax taken
stop_of taken unread fault.TooLong = TooLong (taken - unread)
stop_of taken unread fault.Cut = Cut (taken - unread)

-- the stop that was met, or none
abbrev pub stopped_of : ℕ → ℕ → Option Fault → Option Stop
stopped_of taken unread None = None
stopped_of taken unread (Some fault) = Some (stop_of taken unread fault)
