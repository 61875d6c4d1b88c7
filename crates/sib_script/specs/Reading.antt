-- How callers see a reader of scripts, and what each call of it does.
use Rattle.std.specs.Prelude.{◌≡◌, ◌≢◌, ◌⊎◌, ℕ, ◌+◌, ◌<◌, ◌≤◌, Bool, true, false, List, [], ◌∷◌, ◌++◌, length, take, drop, Option, Some, None, Result, Ok, Err}
use Rattle.sib_script.specs.Script.{entry_spelling, IsEntry}
use Rattle.sib_script.specs.declared.entry.Entry.{Entry}
use Rattle.sib_script.specs.declared.reader.ScriptFault.{ScriptFault}
use Rattle.sib_script.specs.declared.reader.ScriptFault.TheVariants.{BadScript, NoMemory}

-- a reader: the bytes since the last whole entry, the entry that waits, how many bytes it took, and whether it met a fault
pub record Reading : Type 0 where
  pub unread : List ℕ
  pub waiting : Option Entry
  pub taken : ℕ
  pub stopped : Bool

-- a reader that has taken nothing
abbrev pub fresh : Reading
fresh = record { unread = []; waiting = None; taken = 0; stopped = false }

-- bytes begin the spelling of an entry, and are not the whole of it
abbrev pub IsPart : List ℕ → Type 0
IsPart bytes = (entry : Entry) × (more : List ℕ) × IsEntry entry × (0 < length more) × (bytes ++ more ≡ entry_spelling entry)

-- no entry has a spelling that begins with these bytes
abbrev pub IsNoPart : List ℕ → Type 0
IsNoPart bytes = (entry : Entry) (more : List ℕ) → IsEntry entry → bytes ++ more ≢ entry_spelling entry

-- a fault stands at the first of these bytes
abbrev pub FaultStands : Reading → List ℕ → Type 0
FaultStands reading [] = ⊥
FaultStands reading (byte ∷ bytes) = IsNoPart (reading.unread ++ byte ∷ [])

-- a reader in which no entry waits takes the piece: it ends an entry, which then waits, or it is part of one, and then a fault
-- stands at the first byte that is left, if any
abbrev pub TakesPiece : Reading → List ℕ → List ℕ → Option Entry → Reading → Type 0
TakesPiece old piece rest (Some entry) new = IsEntry entry × (old.unread ++ piece ≡ entry_spelling entry)
    × (new ≡ record old { unread = []; waiting = Some entry; taken = old.taken + length piece })
TakesPiece old piece rest None new = (new ≡ record old { unread = old.unread ++ piece; taken = old.taken + length piece })
    × (rest ≢ [] → (0 < length piece) × FaultStands new rest)

-- while an entry waits nothing is taken
abbrev pub FeedsWaiting : Reading → Option Entry → List ℕ → ℕ → Reading → Type 0
FeedsWaiting old (Some entry) bytes count new = (count ≡ 0) × (new ≡ old)
FeedsWaiting old None bytes count new = (old.stopped ≡ false) × TakesPiece old (take count bytes) (drop count bytes) new.waiting new

-- a call with these bytes took so many of them
pub record Feeds (old : Reading) (bytes : List ℕ) (count : ℕ) (new : Reading) : Type 0 where
  pub within : count ≤ length bytes
  pub part : IsPart new.unread ⊎ (new.unread ≡ [])
  pub does : FeedsWaiting old old.waiting bytes count new

-- a call was refused: a fault was met before or stands at the next byte, and it stands for good; or the call ran out of
-- memory, and nothing changed
abbrev pub Refuses : Reading → List ℕ → Reading → ScriptFault → Type 0
Refuses old bytes new NoMemory = new ≡ old
Refuses old bytes new (BadScript place) = (place ≡ old.taken) × (new ≡ record old { stopped = true })
    × ((old.stopped ≡ true) ⊎ ((old.waiting ≡ None) × FaultStands old bytes))

-- a call runs out of memory only where no entry waits, no fault was met and none stands at the first byte
pub record IsMemoryWanted (old : Reading) (bytes : List ℕ) : Type 0 where
  pub idle : old.waiting ≡ None
  pub sound : old.stopped ≡ false
  pub fine : ¬ FaultStands old bytes

-- the end of the script: fine between entries, and a fault inside one, which stands for good
abbrev pub Ends : Reading → Result (Unit {0}) ScriptFault → Reading → Type 0
Ends old (Ok done) new = (old.unread ≡ []) × (old.stopped ≡ false) × (new ≡ old)
Ends old (Err NoMemory) new = ⊥
Ends old (Err (BadScript place)) new = (place ≡ old.taken) × (new ≡ record old { stopped = true })
    × ((old.stopped ≡ true) ⊎ (0 < length old.unread))
