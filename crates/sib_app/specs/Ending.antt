-- How a command comes to its status, and what it has read and written then.
use Rattle.std.specs.Prelude.{◌≡◌, ℕ}
use Rattle.sib_io.specs.Causes.{Rose, AppendsPart}
use Rattle.std.specs.Io.KnownBytes.{Appends}
use Rattle.ssap_encode.specs.declared.fault.EncodeFault.{EncodeFault}
use Rattle.ssap_encode.specs.declared.fault.EncodeFault.TheVariants as fault
use Rattle.made_script.specs.Made.{made_script}
use Rattle.stream_report.specs.Ending as report
use Rattle.stream_report.specs.declared.verdict.Report.{Report}
use Rattle.stream_report.specs.declared.ending.Ending.{Ending as ReportEnding}
use Rattle.sib_replay.specs.Ending.{Outside, Ends, status_of}
use Rattle.sib_replay.specs.Turn.{sink_of}
use Rattle.sib_replay.specs.declared.ending.Ending.{Ending}
use Rattle.sib_replay.specs.declared.ending.Ending.TheVariants.{Done, BadScript, ReadFault, WriteFault, NoMemory, Spent}
use Rattle.replay_trial.specs.Trial.{Tried}
use Rattle.sib_app.specs.Commands.{Command, Replay, Reports, Make, Trial}

-- what a report sees of the outside: all but the counter of rows
abbrev pub for_report : Outside → report.Outside
for_report outside = report.outside outside.left outside.given outside.read_faults outside.write_faults

-- no row was read
abbrev pub ReadsNoRow : Outside → Outside → Type 0
ReadsNoRow old new = new.steps ≡ old.steps

-- the source is as before
pub record KeepsSource (old new : Outside) : Type 0 where
  pub left : new.left ≡ old.left
  pub faults : new.read_faults ≡ old.read_faults

-- a script was made: all of it was given, or a prefix where the sink failed or memory ran out
abbrev pub MakesScript : ℕ → Outside → Outside → Ending → Type 0
MakesScript updates old new Done = Appends old.given new.given (made_script updates) × (new.write_faults ≡ old.write_faults)
MakesScript updates old new BadScript = ⊥
MakesScript updates old new ReadFault = ⊥
MakesScript updates old new WriteFault = AppendsPart old.given new.given (made_script updates) × Rose old.write_faults new.write_faults
MakesScript updates old new NoMemory = AppendsPart old.given new.given (made_script updates) × (new.write_faults ≡ old.write_faults)
MakesScript updates old new Spent = ⊥

-- how a make ends at a fault
abbrev pub ending_at : EncodeFault → Ending
ending_at fault.WriteFault = WriteFault
ending_at fault.NoMemory = NoMemory

-- a status came of the ending of a report
abbrev pub EndsReport : Report → Outside → Outside → ℕ → Type 0
EndsReport kind old new status = (ending : ReportEnding) × (status ≡ report.status_of ending) × report.Ended kind (for_report old) (for_report new) ending
    × ReadsNoRow old new

-- a status came of the ending of a make
abbrev pub EndsMake : ℕ → Outside → Outside → ℕ → Type 0
EndsMake updates old new status = (ending : Ending) × (status ≡ status_of ending) × MakesScript updates old new ending
    × KeepsSource old new × ReadsNoRow old new

-- a status came of the ending of a trial
abbrev pub EndsTrial : ℕ → Outside → Outside → ℕ → Type 0
EndsTrial updates old new status = (ending : Ending) × (status ≡ status_of ending) × Tried updates (sink_of old) (sink_of new) ending
    × KeepsSource old new

-- how a command came to its status
abbrev pub Comes : Command → Outside → Outside → ℕ → Type 0
Comes (Replay name) old new status = Ends name old new status
Comes (Reports kind) old new status = EndsReport kind old new status
Comes (Make updates) old new status = EndsMake updates old new status
Comes (Trial updates) old new status = EndsTrial updates old new status
