-- What holds of a pump of input between two reads of its source, and before it ends its link.
use Rattle.std.specs.Prelude.{◌≡◌, ℕ, ◌+◌, ◌-◌, ◌<◌, ◌≤◌, List, ◌++◌, length, Result, Ok, Err}
use Rattle.std.specs.Io.KnownBytes.{Consumes, IsAtEnd}
use Rattle.sib_io.specs.Causes.{Rose}
use Rattle.sib_io.specs.declared.reading.TheConstants.{INPUT_LIMIT}
use Rattle.space_shared.specs.Exchanges.{SeatSight}
use Rattle.space_shared.specs.Input.{Inlet}
use Rattle.space_shared.specs.Listening.{Listens, Stops}
use Rattle.space_shared.specs.declared.intake.Intake.{Intake}
use Rattle.space_shared.specs.declared.ends.InEnd.{InEnd}
use Rattle.space_shared.specs.declared.ends.InEnd.TheVariants.{Ended, Syntax, TooLong, Cut, NotRequest, Closed, ReadFault, Spent, Worn, NoMemory}

-- how an input ends of which no more may be taken, after its last piece
abbrev pub spent_by : Result (Unit {0}) InEnd → InEnd
spent_by (Ok done) = Spent
spent_by (Err Ended) = Spent
spent_by (Err (Syntax place)) = Spent
spent_by (Err (TooLong start)) = Spent
spent_by (Err (Cut start)) = Spent
spent_by (Err (NotRequest start)) = Spent
spent_by (Err Closed) = Spent
spent_by (Err ReadFault) = Spent
spent_by (Err Spent) = Spent
spent_by (Err (Worn count)) = Worn count
spent_by (Err NoMemory) = NoMemory

-- no fault was counted, and the limit of an input was not reached
pub record IsWithin (old new : Inlet) (read : List ℕ) : Type 0 where
  pub kept : new.faults ≡ old.faults
  pub below : length read < INPUT_LIMIT

-- what is seen of the source at each end, and how much was read
abbrev pub Outside : Inlet → Inlet → List ℕ → InEnd → Type 0
Outside old new read Ended = IsWithin old new read × IsAtEnd new.left
Outside old new read (Syntax place) = IsWithin old new read
Outside old new read (TooLong start) = IsWithin old new read
Outside old new read (Cut start) = IsWithin old new read × IsAtEnd new.left
Outside old new read (NotRequest start) = IsWithin old new read
Outside old new read Closed = IsWithin old new read
Outside old new read ReadFault = Rose old.faults new.faults × (length read < INPUT_LIMIT)
Outside old new read Spent = (new.faults ≡ old.faults) × (length read ≡ INPUT_LIMIT)
Outside old new read (Worn count) = new.faults ≡ old.faults
Outside old new read NoMemory = new.faults ≡ old.faults

-- an input ended so, and the link was not ended yet
pub record Hears (link : ℕ) (first : SeatSight) (old new : Inlet) (end : InEnd) (now : SeatSight) : Type 0 where
  pub read : List ℕ
  pub consumed : Consumes old.left new.left read
  pub limited : length read ≤ INPUT_LIMIT
  pub later : old.faults ≤ new.faults
  pub outside : Outside old new read end
  pub stops : Stops link first read end now

-- some bytes were read without a fault and their messages delivered, and so many may still be read
pub record Reading (link : ℕ) (first : SeatSight) (old new : Inlet) (read : List ℕ) (left : ℕ) (intake : Intake) (now : SeatSight) : Type 0 where
  pub consumed : Consumes old.left new.left read
  pub kept : new.faults ≡ old.faults
  pub counted : length read + left ≡ INPUT_LIMIT
  pub listens : Listens link first read intake now

-- some link is read on so
abbrev pub IsReading : Inlet → ℕ → Intake → SeatSight → Type 0
IsReading new left intake now = (link : ℕ) × (first : SeatSight) × (old : Inlet) × (read : List ℕ) × Reading link first old new read left intake now

-- a turn read a piece and delivered its messages, or the input ended
abbrev pub TurnsOn : ℕ → SeatSight → Inlet → Inlet → List ℕ → ℕ → Result ℕ InEnd → Intake → SeatSight → Type 0
TurnsOn link first old new read left (Ok count) intake now = (piece : List ℕ) × Reading link first old new (read ++ piece) (left - count) intake now
TurnsOn link first old new read left (Err end) intake now = Hears link first old new end now
