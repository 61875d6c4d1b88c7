-- How a replay ends, and what it has read and written then.
use Rattle.std.specs.Prelude.{◌≡◌, ℕ, ◌+◌, ◌≤◌, ◌<◌, ◌⊎◌, List, [], ◌∷◌, ◌++◌, length, map, codes, Option, Some, string_bytes, String}
use Rattle.std.specs.Global.{Global}
use Rattle.std.specs.Io.KnownBytes.{Appends, Consumes, IsAtEnd}
use Rattle.m3_terms.specs.Text.{IsText}
use Rattle.sib_io.specs.Causes.{Rose, AppendsPart}
use Rattle.sib_script.specs.declared.entry.Entry.{Entry}
use Rattle.sib_script.specs.Script.{IsScript, BeginsScript, Splits, IsPlace}
use Rattle.sib_replay.specs.Output.{Event, AreTaken, space_after, answers, rows, last_line, fault_line, IsOutput}
use Rattle.sib_io.specs.declared.reading.TheConstants.{INPUT_LIMIT}
use Rattle.sib_replay.specs.declared.ending.Ending.{Ending}
use Rattle.sib_replay.specs.declared.ending.Fault.{Fault}
use Rattle.sib_replay.specs.declared.ending.Fault.TheVariants as fault
use Rattle.sib_replay.specs.declared.ending.Ending.TheVariants.{Done, BadScript, ReadFault, WriteFault, NoMemory, Spent}

-- what is seen of a source, a sink and the counter of rows: what is left, what was given, their counts of faults, and the
-- rows that were read
pub record Outside : Type 0 where
  pub left : Option (List ℕ)
  pub given : Option (List ℕ)
  pub read_faults : ℕ
  pub write_faults : ℕ
  pub steps : ℕ

-- what is seen, from its parts
abbrev pub outside : Option (List ℕ) → Option (List ℕ) → ℕ → ℕ → ℕ → Outside
outside left given reads writes steps = record { left = left; given = given; read_faults = reads; write_faults = writes; steps = steps }

-- the status of an ending
abbrev pub status_of : Ending → ℕ
status_of Done = 0
status_of BadScript = 3
status_of ReadFault = 4
status_of WriteFault = 5
status_of NoMemory = 6
status_of Spent = 7

-- how a replay ends at a fault of an entry
abbrev pub ending_of : Fault → Ending
ending_of fault.NoMemory = NoMemory
ending_of fault.WriteFault = WriteFault

-- the counter rose by no more than the rows that the calls of the whole entries read, in these bytes and whatever follows
abbrev pub ReadsWithin : List ℕ → ℕ → ℕ → List ℕ → Type 0
ReadsWithin name old new read = (more : List ℕ) (entries : List Entry) (rest : List ℕ) (events : List Event) → Splits (read ++ more) entries rest → AreTaken name entries events
    → new ≤ old + rows name events

-- what was given is a prefix of all that is written for the bytes that were read and those that are left, where the
-- source tells them
abbrev pub GivesPart : List ℕ → Option (List ℕ) → Option (List ℕ) → List ℕ → Option (List ℕ) → Type 0
GivesPart name old new read left = (more output : List ℕ) → left ≡ Some more → IsOutput name (read ++ more) output → AppendsPart old new output

-- the answers to the whole entries in the bytes that were read were given, and no more
pub record GivesAnswers (name : List ℕ) (old new : Option (List ℕ)) (read rest : List ℕ) : Type 0 where
  pub entries : List Entry
  pub events : List Event
  pub splits : Splits read entries rest
  pub taken : AreTaken name entries events
  pub given : Appends old new (answers name events)

-- the bytes that were read are no script: the answers to the whole entries in them were given, and then the line with the
-- place of the fault
pub record GivesFault (name : List ℕ) (old new : Option (List ℕ)) (read rest : List ℕ) : Type 0 where
  pub entries : List Entry
  pub events : List Event
  pub place : ℕ
  pub splits : Splits read entries rest
  pub some : 0 < length rest
  pub at : IsPlace read place
  pub taken : AreTaken name entries events
  pub given : Appends old new (answers name events ++ fault_line place)

-- the bytes that were read are a script, and its answers and the last line were given
pub record GivesAll (name : List ℕ) (old new : Option (List ℕ)) (read : List ℕ) : Type 0 where
  pub entries : List Entry
  pub events : List Event
  pub script : IsScript read entries
  pub taken : AreTaken name entries events
  pub given : Appends old new (answers name events ++ last_line (space_after name events))

-- neither count of faults rose
pub record KeepsCounts (old new : Outside) : Type 0 where
  pub reads : new.read_faults ≡ old.read_faults
  pub writes : new.write_faults ≡ old.write_faults

-- what holds at each ending, of the bytes that were read: the ending names the count of faults that rose, if one did
abbrev pub Outcome : List ℕ → Outside → Outside → List ℕ → Ending → Type 0
Outcome name old new read Done = KeepsCounts old new × (length read < INPUT_LIMIT) × IsAtEnd new.left × GivesAll name old.given new.given read
Outcome name old new read BadScript = KeepsCounts old new × (length read < INPUT_LIMIT) × (¬ (BeginsScript read) ⊎ IsAtEnd new.left)
    × (rest : List ℕ) × GivesFault name old.given new.given read rest
Outcome name old new read ReadFault = (new.write_faults ≡ old.write_faults) × Rose old.read_faults new.read_faults × (length read < INPUT_LIMIT)
    × BeginsScript read × (rest : List ℕ) × GivesAnswers name old.given new.given read rest
Outcome name old new read WriteFault = Rose old.write_faults new.write_faults × GivesPart name old.given new.given read new.left
Outcome name old new read NoMemory = KeepsCounts old new × GivesPart name old.given new.given read new.left
Outcome name old new read Spent = KeepsCounts old new × (length read ≡ INPUT_LIMIT) × GivesPart name old.given new.given read new.left

-- a replay ended so: it read some bytes, at most so many, within the rows of their calls
pub record Ended (name : List ℕ) (old new : Outside) (ending : Ending) : Type 0 where
  pub read : List ℕ
  pub consumed : Consumes old.left new.left read
  pub limited : length read ≤ INPUT_LIMIT
  pub counts : ReadsWithin name old.steps new.steps read
  pub outcome : Outcome name old new read ending

-- a status came of an ending
abbrev pub Ends : List ℕ → Outside → Outside → ℕ → Type 0
Ends name old new status = (ending : Ending) × (status ≡ status_of ending) × Ended name old new ending

-- an input is no script: the answers to the whole entries before its first fault were given, and then the line with its place
abbrev pub GivesBefore : List ℕ → Option (List ℕ) → Option (List ℕ) → List ℕ → Type 0
GivesBefore name old new input = ((entries : List Entry) → ¬ IsScript input entries) × (rest : List ℕ) × GivesFault name old new input rest
