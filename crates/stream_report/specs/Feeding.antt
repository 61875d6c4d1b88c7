-- What a report stands for between two messages, and what a call does to that.
use Rattle.std.specs.Prelude.{◌≡◌, ◌≢◌, ◌⊎◌, ℕ, ◌≤◌, List, ◌++◌, length, take, Option, Some, None, Result, Ok, Err}
use Rattle.sib_io.specs.Causes.{AppendsPart}
use Rattle.ssap_hearing.specs.Hearing.{Follows}
use Rattle.stream_report.specs.Report.{lines_of, last_line, IsReport, ending_of}
use Rattle.stream_report.specs.Giving.{Outlet, Gives, IsCause}
use Rattle.stream_report.specs.Ending.{GivesReport}
use Rattle.stream_report.specs.declared.ending.Ending.{Ending}
use Rattle.stream_report.specs.declared.ending.Ending.TheVariants.{Done, Stopped, ReadFault, WriteFault, NoMemory, Spent}
use Rattle.stream_report.specs.declared.reporter.Reporter.{Reporter}
use Rattle.stream_report.specs.declared.verdict.Report.{Report}
use Rattle.stream_report.specs.declared.verdict.Fault.{Fault}
use Rattle.stream_report.specs.declared.verdict.Fault.TheVariants.{Cut}
use Rattle.stream_report.specs.declared.verdict.Verdict.{Verdict}
use Rattle.stream_report.specs.declared.verdict.Verdict.TheVariants.{Fine, Stops}

-- a decoder took these bytes, their messages were counted, and what they give was given
pub record Reports (report : Report) (old now : Outlet) (read : List ℕ) (reporter : Reporter) : Type 0 where
  pub same : reporter.report ≡ report
  pub follows : Follows reporter.decoder read reporter.messages
  pub few : reporter.messages ≤ length read
  pub gives : Gives old now (lines_of report follows.messages)

-- a report stands for something
abbrev pub IsReporting : Reporter → Type 0
IsReporting reporter = (report : Report) × (old : Outlet) × (now : Outlet) × (read : List ℕ) × Reports report old now read reporter

-- what was given is a prefix of the report on these bytes and whatever follows
abbrev pub GivesFront : Report → Outlet → Outlet → List ℕ → Type 0
GivesFront report old new read = (more output : List ℕ) → IsReport report (read ++ more) output → AppendsPart old.given new.given output

-- what was given is a prefix of the report on these bytes
abbrev pub GivesEnd : Report → Outlet → Outlet → List ℕ → Type 0
GivesEnd report old new read = (output : List ℕ) → IsReport report read output → AppendsPart old.given new.given output

-- these bytes are no stream, whatever follows, and the report that says so was given
pub record Breaks (report : Report) (old new : Outlet) (read : List ℕ) : Type 0 where
  pub place : ℕ
  pub fault : Fault
  pub early : fault ≢ Cut
  pub gives : GivesReport report old new read (Stops place fault)
  pub faults : new.faults ≡ old.faults

-- bytes were taken and reported; or a stop ended the report, or it failed
abbrev pub Feeds : {T : Type 0} → Report → Outlet → Outlet → List ℕ → List ℕ → Result T Ending → Reporter → Type 0
Feeds report old new front bytes (Ok value) reporter = Reports report old new front reporter
Feeds report old new front bytes (Err Done) reporter = ⊥
Feeds report old new front bytes (Err Stopped) reporter = Breaks report old new bytes
Feeds report old new front bytes (Err ReadFault) reporter = ⊥
Feeds report old new front bytes (Err WriteFault) reporter = GivesFront report old new bytes × IsCause old new WriteFault
Feeds report old new front bytes (Err NoMemory) reporter = GivesFront report old new bytes × IsCause old new NoMemory
Feeds report old new front bytes (Err Spent) reporter = ⊥

-- a call took so many of these bytes, or is the last
abbrev pub FeedsSome : Report → Outlet → Outlet → List ℕ → List ℕ → Result ℕ Ending → Reporter → Type 0
FeedsSome report old new read bytes (Ok count) reporter = Feeds report old new (read ++ take count bytes) (read ++ bytes) (Ok count) reporter
FeedsSome report old new read bytes (Err ending) reporter = Feeds {T = ℕ} report old new read (read ++ bytes) (Err ending) reporter

-- the report on an input that was taken whole was given, or a prefix of it
abbrev pub Finishes : Report → Outlet → Outlet → List ℕ → Ending → Type 0
Finishes report old new read Done = (new.faults ≡ old.faults) × GivesReport report old new read Fine
Finishes report old new read Stopped = (new.faults ≡ old.faults) × (place : ℕ) × (fault : Fault) × GivesReport report old new read (Stops place fault)
Finishes report old new read ReadFault = ⊥
Finishes report old new read WriteFault = GivesEnd report old new read × IsCause old new WriteFault
Finishes report old new read NoMemory = GivesEnd report old new read × IsCause old new NoMemory
Finishes report old new read Spent = ⊥

-- the last line of this verdict was given, or a prefix of it; without a verdict nothing was, out of memory
abbrev pub Halts : Report → ℕ → Option Verdict → Outlet → Outlet → Ending → Type 0
Halts report count None old new ending = (ending ≡ NoMemory) × (new ≡ old)
Halts report count (Some verdict) old new ending = ((ending ≡ ending_of verdict) × Gives old new (last_line report count verdict))
    ⊎ (AppendsPart old.given new.given (last_line report count verdict) × IsCause old new ending)
