-- What holds of a report between two reads of its source.
use Rattle.std.specs.Prelude.{◌≡◌, ℕ, ◌+◌, ◌-◌, List, ◌++◌, length, take, Result, Ok, Err}
use Rattle.std.specs.Io.KnownBytes.{Consumes, IsAtEnd, Keeps}
use Rattle.sib_io.specs.Causes.{Rose}
use Rattle.stream_report.specs.Ending.{Outside, KeepsCounts, Ended}
use Rattle.stream_report.specs.Feeding.{Reports}
use Rattle.sib_io.specs.declared.reading.TheConstants.{INPUT_LIMIT}
use Rattle.stream_report.specs.declared.ending.Ending.{Ending}
use Rattle.stream_report.specs.declared.ending.Ending.TheVariants.{Done, Stopped, ReadFault, WriteFault, NoMemory, Spent}
use Rattle.stream_report.specs.declared.reporter.Reporter.{Reporter}
use Rattle.stream_report.specs.declared.verdict.Report.{Report}

-- some bytes were read and reported without a fault, and so many may still be read
pub record Reading (report : Report) (old now : Outside) (read : List ℕ) (left : ℕ) (reporter : Reporter) : Type 0 where
  pub consumed : Consumes old.left now.left read
  pub reads : now.reads ≡ old.reads
  pub counted : length read + left ≡ INPUT_LIMIT
  pub reports : Reports report old.outlet now.outlet read reporter

-- some report is read on so
abbrev pub IsReading : Outside → ℕ → Reporter → Type 0
IsReading now left reporter = (report : Report) × (old : Outside) × (read : List ℕ) × Reading report old now read left reporter

-- what the sink was given is handed on; then a piece of the source is read, or one of the two fails
abbrev pub ReadsPiece : Outside → Outside → List ℕ → Result ℕ Ending → Type 0
ReadsPiece old new buffer (Ok count) = Keeps old.outlet.given new.outlet.given × KeepsCounts old new × Consumes old.left new.left (take count buffer) × (count ≡ 0 → IsAtEnd new.left)
ReadsPiece old new buffer (Err Done) = ⊥
ReadsPiece old new buffer (Err Stopped) = ⊥
ReadsPiece old new buffer (Err ReadFault) = Keeps old.outlet.given new.outlet.given × (new.outlet.faults ≡ old.outlet.faults) × Rose old.reads new.reads × Keeps old.left new.left
ReadsPiece old new buffer (Err WriteFault) = Keeps old.outlet.given new.outlet.given × Rose old.outlet.faults new.outlet.faults × (new.left ≡ old.left)
ReadsPiece old new buffer (Err NoMemory) = ⊥
ReadsPiece old new buffer (Err Spent) = ⊥

-- a turn read a piece and reported it, or the report ended
abbrev pub TurnsOn : Report → Outside → Outside → List ℕ → ℕ → Reporter → Result ℕ Ending → Type 0
TurnsOn report old new read left reporter (Ok count) = (piece : List ℕ) × Reading report old new (read ++ piece) (left - count) reporter
TurnsOn report old new read left reporter (Err ending) = Ended report old new ending
