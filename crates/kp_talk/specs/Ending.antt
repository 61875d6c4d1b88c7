-- How a run of a client ends, and what it has read, written and printed then.
use Rattle.std.specs.Prelude.{◌≡◌, ◌⊎◌, ℕ, ◌≤◌, ◌<◌, List, length, Option}
use Rattle.std.specs.Io.KnownBytes.{Appends, Consumes, IsAtEnd}
use Rattle.sib_io.specs.Causes.{Rose}
use Rattle.kp_talk.specs.Talk.{Talk}
use Rattle.kp_talk.specs.Lines.{status_of, written, printed, output}
use Rattle.kp_talk.specs.Reading.{IsTalk, IsClean}
use Rattle.kp_talk.specs.Saying.{Outlets, outlets, SaysPart}
use Rattle.kp_talk.specs.declared.errand.Errand.{Errand}
use Rattle.kp_talk.specs.declared.finish.Finish.{Finish}
use Rattle.sib_io.specs.declared.reading.TheConstants.{INPUT_LIMIT}
use Rattle.kp_talk.specs.declared.ending.Ending.{Ending}
use Rattle.kp_talk.specs.declared.ending.Ending.TheVariants.{Finished, ReadFault, WriteFault, NoMemory, Spent}

-- the exit status of an ending
abbrev pub ending_status : Ending → ℕ
ending_status (Finished finish) = status_of finish
ending_status ReadFault = 4
ending_status WriteFault = 5
ending_status NoMemory = 6
ending_status Spent = 7

-- what is seen of the source and of the two sinks: what is left, its count of faults, and the outlets
pub record Outside : Type 0 where
  pub left : Option (List ℕ)
  pub reads : ℕ
  pub outlets : Outlets

-- what is seen, from its parts
abbrev pub outside : Option (List ℕ) → Option (List ℕ) → Option (List ℕ) → ℕ → ℕ → ℕ → Outside
outside left written_ printed_ reads writes prints = record { left = left; reads = reads; outlets = outlets written_ printed_ writes prints }

-- no count of faults rose
pub record KeepsCounts (old new : Outside) : Type 0 where
  pub reads : new.reads ≡ old.reads
  pub writes : new.outlets.writes ≡ old.outlets.writes
  pub prints : new.outlets.prints ≡ old.outlets.prints

-- all requests of a talk were written, and all its lines before the last were printed
pub record GivesTalk (old new : Outside) (talk : Talk) : Type 0 where
  pub written : Appends old.outlets.written new.outlets.written (written talk)
  pub printed : Appends old.outlets.printed new.outlets.printed (printed talk)

-- and so was the last line
pub record GivesAll (old new : Outside) (talk : Talk) : Type 0 where
  pub written : Appends old.outlets.written new.outlets.written (written talk)
  pub printed : Appends old.outlets.printed new.outlets.printed (output talk)

-- a talk over these bytes waits for more: they finish between messages, or inside one
pub record IsWaiting (errand : Errand) (bytes : List ℕ) (talk : Talk) : Type 0 where
  pub talks : IsTalk errand bytes talk
  pub waits : IsClean talk.finish

-- of the talk over these bytes, which is one where there is one, prefixes of its requests and of its lines were written and printed
abbrev pub GivesPart : Errand → Outside → Outside → List ℕ → Type 0
GivesPart errand old new bytes = (talk : Talk) → IsTalk errand bytes talk → SaysPart old.outlets new.outlets (written talk) (output talk)

-- where the input finished a talk, it is at its end, below the limit
abbrev pub IsOver : Finish → List ℕ → Option (List ℕ) → Type 0
IsOver finish read left = IsClean finish → IsAtEnd left × (length read < INPUT_LIMIT)

-- what holds at each ending, of the bytes that were read: a failure names the count of faults that rose
abbrev pub Outcome : Errand → Outside → Outside → List ℕ → Ending → Type 0
Outcome errand old new read (Finished finish) = KeepsCounts old new
    × (talk : Talk) × IsTalk errand read talk × (talk.finish ≡ finish) × GivesAll old new talk × IsOver finish read new.left
Outcome errand old new read ReadFault = Rose old.reads new.reads
    × (new.outlets.writes ≡ old.outlets.writes) × (new.outlets.prints ≡ old.outlets.prints)
    × (talk : Talk) × IsWaiting errand read talk × GivesTalk old new talk × (length read < INPUT_LIMIT)
Outcome errand old new read WriteFault = (Rose old.outlets.writes new.outlets.writes ⊎ Rose old.outlets.prints new.outlets.prints)
    × GivesPart errand old new read
Outcome errand old new read NoMemory = KeepsCounts old new × GivesPart errand old new read
Outcome errand old new read Spent = KeepsCounts old new × (length read ≡ INPUT_LIMIT)
    × (talk : Talk) × IsWaiting errand read talk × GivesTalk old new talk

-- a run ended so: it read some bytes, at most so many
pub record Ended (errand : Errand) (old new : Outside) (ending : Ending) : Type 0 where
  pub read : List ℕ
  pub consumed : Consumes old.left new.left read
  pub limited : length read ≤ INPUT_LIMIT
  pub outcome : Outcome errand old new read ending
