-- What the exit status of a command means.
use Rattle.std.specs.Prelude.{◌≡◌, ◌≢◌, ◌⊎◌, ℕ, ◌+◌, ◌<◌, ◌≤◌, List, length, IfSome, Some}
use Rattle.std.specs.Io.KnownBytes.{Appends, IsAtEnd}
use Rattle.sib_io.specs.Causes.{Rose, AppendsPart}
use Rattle.sib_io.specs.declared.reading.TheConstants.{INPUT_LIMIT}
use Rattle.sib_script.specs.declared.entry.Entry.{Entry}
use Rattle.sib_script.specs.Script.{IsScript, Splits}
use Rattle.made_script.specs.Made.{made_script, made_entries, made_space}
use Rattle.stream_report.specs.Report.{IsFine, IsReport}
use Rattle.stream_report.specs.declared.verdict.Report.{Report}
use Rattle.sib_replay.specs.Ending.{Outside, GivesAll, GivesBefore}
use Rattle.sib_replay.specs.Output.{Event, AreTaken, IsOutput, rows}
use Rattle.replay_trial.specs.Trial.{IsTrial}
use Rattle.sib_app.specs.Commands.{Command, Replay, Reports, Make, Trial}

-- no count of faults rose
pub record NoneRose (old new : Outside) : Type 0 where
  pub reads : ¬ (Rose old.read_faults new.read_faults)
  pub writes : ¬ (Rose old.write_faults new.write_faults)

-- what the status of a replay in the space of this name means
pub record MeansReplay (name : List ℕ) (old new : Outside) (status : ℕ) : Type 0 where
  -- the input was read to its end and is a script, and its answers and the last line were given
  pub done : status ≡ 0 → IsAtEnd new.left × IfSome old.left (GivesAll name old.given new.given)
  -- the input is no script: the answers to its whole entries were given, and the line with the place of its fault
  pub bad : status ≡ 3 → IfSome old.left (GivesBefore name old.given new.given)
  -- as many bytes were there as may be read
  pub spent : status ≡ 7 → IfSome old.left (λ all. INPUT_LIMIT ≤ length all)
  -- what was given is a prefix of all that is written for the input
  pub part : (all output : List ℕ) → old.left ≡ Some all → IsOutput name all output → AppendsPart old.given new.given output
  -- no more rows were read than the calls cost
  pub cost : (all : List ℕ) (entries : List Entry) (rest : List ℕ) (events : List Event) → old.left ≡ Some all → Splits all entries rest → AreTaken name entries events
      → new.steps ≤ old.steps + rows name events
  -- a script is answered, with memory and without a fault
  pub complete : (all : List ℕ) (entries : List Entry) → old.left ≡ Some all → IsScript all entries → length all < INPUT_LIMIT → NoneRose old new
      → (status ≡ 0) ⊎ (status ≡ 6)
  -- and so is any other input
  pub answered : NoneRose old new → (status ≡ 0) ⊎ (status ≡ 3) ⊎ (status ≡ 7) ⊎ (status ≡ 6)

-- what the status of a report means
pub record MeansReport (kind : Report) (old new : Outside) (status : ℕ) : Type 0 where
  -- the input was read to its end, is a stream, and has no message that is too long; all of its report was given
  pub done : status ≡ 0 → IsAtEnd new.left × ((all output : List ℕ) → old.left ≡ Some all → IsReport kind all output
      → IsFine all × Appends old.given new.given output)
  -- the input is no such stream, and all of its report was given
  pub stopped : status ≡ 1 → (all output : List ℕ) → old.left ≡ Some all → IsReport kind all output → (¬ (IsFine all)) × Appends old.given new.given output
  -- as many bytes were there as may be read
  pub spent : status ≡ 7 → (all : List ℕ) → old.left ≡ Some all → INPUT_LIMIT ≤ length all
  -- what was given is a prefix of the report on the input
  pub part : (all output : List ℕ) → old.left ≡ Some all → IsReport kind all output → AppendsPart old.given new.given output
  -- an input is reported as what it is, with memory and without a fault
  pub complete : (all : List ℕ) → old.left ≡ Some all → NoneRose old new
      → (status ≡ 6) ⊎ ((status ≡ 0) × IsFine all) ⊎ ((status ≡ 1) × (¬ (IsFine all))) ⊎ ((status ≡ 7) × (INPUT_LIMIT ≤ length all))

-- what the status of a make means
pub record MeansMake (updates : ℕ) (old new : Outside) (status : ℕ) : Type 0 where
  -- the script was given
  pub done : status ≡ 0 → Appends old.given new.given (made_script updates)
  -- or a prefix of it
  pub part : AppendsPart old.given new.given (made_script updates)
  -- all of it, with memory and without a fault
  pub complete : NoneRose old new → (status ≡ 0) ⊎ (status ≡ 6)

-- what the status of a trial means
pub record MeansTrial (updates : ℕ) (old new : Outside) (status : ℕ) : Type 0 where
  -- the line with the counts was given, and then the last line of the replay
  pub done : status ≡ 0 → (output : List ℕ) × IsTrial updates output × Appends old.given new.given output
  -- or a prefix of both
  pub part : status ≢ 0 → (output : List ℕ) → IsTrial updates output → AppendsPart old.given new.given output
  -- no more rows were read than the calls cost
  pub cost : (events : List Event) → AreTaken made_space (made_entries updates) events → new.steps ≤ old.steps + rows made_space events
  -- both lines, with memory and without a fault
  pub complete : NoneRose old new → (status ≡ 0) ⊎ (status ≡ 6)

-- what the status of a command means
abbrev pub Means : Command → Outside → Outside → ℕ → Type 0
Means (Replay name) old new status = MeansReplay name old new status
Means (Reports kind) old new status = MeansReport kind old new status
Means (Make updates) old new status = MeansMake updates old new status
Means (Trial updates) old new status = MeansTrial updates old new status
