-- What holds of a replay between two reads of its source.
use Rattle.std.specs.Prelude.{◌≡◌, ℕ, ◌+◌, ◌-◌, List, ◌++◌, length, take, Result, Ok, Err}
use Rattle.std.specs.Io.KnownBytes.{Consumes, IsAtEnd, Keeps}
use Rattle.sib_io.specs.Causes.{Rose}
use Rattle.sib_replay.specs.Doing.{Seen, seen}
use Rattle.sib_replay.specs.Ending.{Outside, Ended, KeepsCounts}
use Rattle.sib_replay.specs.Session.{Replays}
use Rattle.sib_io.specs.declared.reading.TheConstants.{INPUT_LIMIT}
use Rattle.sib_replay.specs.declared.ending.Ending.{Ending}
use Rattle.sib_replay.specs.declared.ending.Ending.TheVariants.{Done, BadScript, ReadFault, WriteFault, NoMemory, Spent}
use Rattle.sib_replay.specs.declared.replay.Replay.{Replay}

-- what is seen of the sink and of the counter
abbrev pub sink_of : Outside → Seen
sink_of o = seen o.given o.write_faults o.steps

-- some bytes were read and answered without a fault, and so many may still be read
pub record Turns (name : List ℕ) (old now : Outside) (read : List ℕ) (left : ℕ) (replay : Replay) : Type 0 where
  pub consumed : Consumes old.left now.left read
  pub reads : now.read_faults ≡ old.read_faults
  pub counted : length read + left ≡ INPUT_LIMIT
  pub replays : Replays name (sink_of old) (sink_of now) read replay.reader replay.session

-- what the sink was given stays, and is handed on; then a piece of the source is read, or one of the two fails
abbrev pub ReadsPiece : Outside → Outside → List ℕ → Result ℕ Ending → Type 0
ReadsPiece old new buffer (Ok count) = Keeps old.given new.given × KeepsCounts old new × Consumes old.left new.left (take count buffer) × (count ≡ 0 → IsAtEnd new.left)
ReadsPiece old new buffer (Err Done) = ⊥
ReadsPiece old new buffer (Err BadScript) = ⊥
ReadsPiece old new buffer (Err ReadFault) = Keeps old.given new.given × (new.write_faults ≡ old.write_faults) × Rose old.read_faults new.read_faults × Keeps old.left new.left
ReadsPiece old new buffer (Err WriteFault) = Keeps old.given new.given × Rose old.write_faults new.write_faults × (new.left ≡ old.left)
ReadsPiece old new buffer (Err NoMemory) = ⊥
ReadsPiece old new buffer (Err Spent) = ⊥

-- a turn read a piece and answered it, or the replay ended
abbrev pub TurnsOn : List ℕ → Outside → Outside → List ℕ → ℕ → Replay → Result ℕ Ending → Type 0
TurnsOn name old new read left replay (Ok count) = (piece : List ℕ) × Turns name old new (read ++ piece) (left - count) replay
TurnsOn name old new read left replay (Err ending) = Ended name old new ending
