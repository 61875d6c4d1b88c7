-- How a report ends, and what it has read and written then.
use Rattle.std.specs.Prelude.{◌≡◌, ◌^◌, ℕ, ◌≤◌, ◌<◌, List, ◌++◌, length, Option, Some, refl}
use Rattle.std.specs.Io.KnownBytes.{Appends, Consumes, IsAtEnd}
use Rattle.sib_io.specs.Causes.{Rose, AppendsPart}
use Rattle.ssap_grammar.specs.Stream.{Placed}
use Rattle.ssap_hearing.specs.Hearing.{AreLet}
use Rattle.stream_report.specs.Report.{IsJudged, lines_of, report_of, IsReport}
use Rattle.stream_report.specs.Giving.{Outlet, outlet}
use Rattle.sib_io.specs.declared.reading.TheConstants.{INPUT_LIMIT}
use Rattle.stream_report.specs.declared.run.TheConstants.{BUFFER}
use Rattle.stream_report.specs.declared.ending.Ending.{Ending}
use Rattle.stream_report.specs.declared.ending.Ending.TheVariants.{Done, Stopped, ReadFault, WriteFault, NoMemory, Spent}
use Rattle.stream_report.specs.declared.verdict.Report.{Report}
use Rattle.stream_report.specs.declared.verdict.Fault.{Fault}
use Rattle.stream_report.specs.declared.verdict.Fault.TheVariants.{Cut}
use Rattle.stream_report.specs.declared.verdict.Verdict.{Verdict}
use Rattle.stream_report.specs.declared.verdict.Verdict.TheVariants.{Fine, Stops}

-- the most bytes that one read takes, as a power of two
pub buffer_size : BUFFER ≡ 2 ^ 16
buffer_size = refl

-- the exit status of an ending
abbrev pub status_of : Ending → ℕ
status_of Done = 0
status_of Stopped = 1
status_of ReadFault = 4
status_of WriteFault = 5
status_of NoMemory = 6
status_of Spent = 7

-- what is seen of the source and of the sink: what is left, its count of faults, and the outlet
pub record Outside : Type 0 where
  pub left : Option (List ℕ)
  pub reads : ℕ
  pub outlet : Outlet

-- what is seen, from its parts
abbrev pub outside : Option (List ℕ) → Option (List ℕ) → ℕ → ℕ → Outside
outside left given reads writes = record { left = left; reads = reads; outlet = outlet given writes }

-- neither count of faults rose
pub record KeepsCounts (old new : Outside) : Type 0 where
  pub reads : new.reads ≡ old.reads
  pub writes : new.outlet.faults ≡ old.outlet.faults

-- the whole report on the bytes that were read was given, and this is how they end
pub record GivesReport (report : Report) (old new : Outlet) (read : List ℕ) (verdict : Verdict) : Type 0 where
  pub messages : List Placed
  pub judged : IsJudged read messages verdict
  pub given : Appends old.given new.given (report_of report messages verdict)

-- no stop stands in the bytes that were read, and what their whole messages give was given, without a last line
pub record GivesLines (report : Report) (old new : Outlet) (read : List ℕ) : Type 0 where
  pub messages : List Placed
  pub through : AreLet read messages
  pub given : Appends old.given new.given (lines_of report messages)

-- no stop stands in the bytes that were read but for the last read, and what their whole messages give was given
pub record GivesMost (report : Report) (old new : Outlet) (read : List ℕ) : Type 0 where
  pub front : List ℕ
  pub last : List ℕ
  pub split : read ≡ front ++ last
  pub small : length last ≤ BUFFER
  pub gives : GivesLines report old new front

-- what was given is a prefix of the report on the bytes that were read and those that are left, where the source tells them
abbrev pub GivesPart : Report → Outlet → Outlet → List ℕ → Option (List ℕ) → Type 0
GivesPart report old new read left = (more output : List ℕ) → left ≡ Some more → IsReport report (read ++ more) output → AppendsPart old.given new.given output

-- what holds at each ending, of the bytes that were read: a failure names the count of faults that rose, and a message is cut
-- only at the end of the input
abbrev pub Outcome : Report → Outside → Outside → List ℕ → Ending → Type 0
Outcome report old new read Done = KeepsCounts old new × (length read < INPUT_LIMIT) × IsAtEnd new.left × GivesReport report old.outlet new.outlet read Fine
Outcome report old new read Stopped = KeepsCounts old new × (length read < INPUT_LIMIT) × (place : ℕ) × (fault : Fault)
    × (fault ≡ Cut → IsAtEnd new.left) × GivesReport report old.outlet new.outlet read (Stops place fault)
Outcome report old new read ReadFault = Rose old.reads new.reads × (new.outlet.faults ≡ old.outlet.faults) × (length read < INPUT_LIMIT)
    × GivesLines report old.outlet new.outlet read
Outcome report old new read WriteFault = Rose old.outlet.faults new.outlet.faults × GivesPart report old.outlet new.outlet read new.left
Outcome report old new read NoMemory = KeepsCounts old new × (length read < INPUT_LIMIT) × GivesPart report old.outlet new.outlet read new.left
Outcome report old new read Spent = KeepsCounts old new × (length read ≡ INPUT_LIMIT) × GivesMost report old.outlet new.outlet read

-- a report ended so: it read some bytes, at most so many
pub record Ended (report : Report) (old new : Outside) (ending : Ending) : Type 0 where
  pub read : List ℕ
  pub consumed : Consumes old.left new.left read
  pub limited : length read ≤ INPUT_LIMIT
  pub outcome : Outcome report old new read ending
