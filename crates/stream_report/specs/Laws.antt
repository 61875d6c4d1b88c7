-- What holds of reports.
use Rattle.std.specs.Prelude.{◌≡◌, ◌≢◌, ◌⊎◌, ℕ, ◌+◌, ◌<◌, ◌≤◌, ◌^◌, List, [], ◌∷◌, ◌++◌, flat_map, length, take, Some}
use Rattle.std.specs.Io.KnownBytes.{Appends, IsAtEnd}
use Rattle.sib_io.specs.Causes.{Rose, AppendsPart}
use Rattle.ssap_items.specs.Canon.{canonical}
use Rattle.ssap_grammar.specs.Stream.{Placed, IsViable, IsPlace, IsWhole, IsInside}
use Rattle.ssap_decode.specs.Decoding.{message_limit}
use Rattle.stream_report.specs.Report.{IsFineOf, IsFine, IsReport, lines_of, ok_line, stop_line}
use Rattle.stream_report.specs.Ending.{Outside, Ended}
use Rattle.sib_io.specs.declared.reading.TheConstants.{INPUT_LIMIT}
use Rattle.stream_report.specs.declared.ending.Ending.{Ending}
use Rattle.stream_report.specs.declared.ending.Ending.TheVariants.{Done, Stopped, ReadFault, WriteFault, NoMemory, Spent}
use Rattle.stream_report.specs.declared.verdict.Report.{Report}
use Rattle.stream_report.specs.declared.verdict.Report.TheVariants.{Show, Check}
use Rattle.stream_report.specs.declared.verdict.Fault.{Fault}
use Rattle.stream_report.specs.declared.verdict.Fault.TheVariants.{Syntax, Long, Cut}

-- each input has a report
abbrev pub ReportsExist : Type 0
ReportsExist = (report : Report) (input : List ℕ) → (output : List ℕ) × IsReport report input output

-- and only one
abbrev pub ReportsOnce : Type 0
ReportsOnce = (report : Report) (input a b : List ℕ) → IsReport report input a → IsReport report input b → a ≡ b

-- an input that is a stream of so many messages, none of which is too long, is counted
abbrev pub StreamsAreCounted : Type 0
StreamsAreCounted = (input : List ℕ) (messages : List Placed) → IsFineOf input messages → IsReport Check input (ok_line (length messages))

-- and one that is counted is such a stream
abbrev pub CountsAreOfStreams : Type 0
CountsAreOfStreams = (input : List ℕ) (count : ℕ) → length input < INPUT_LIMIT → count < 2 ^ 64 → IsReport Check input (ok_line count)
    → (messages : List Placed) × IsFineOf input messages × (length messages ≡ count)

-- of such a stream the canonical spelling of each message is shown, with a line end
abbrev pub StreamsAreShown : Type 0
StreamsAreShown = (input : List ℕ) (messages : List Placed) → IsFineOf input messages
    → IsReport Show input (flat_map (λ (message : Placed). canonical message.envelope ++ 10 ∷ []) messages)

-- what the place of a stop is: the length of the longest prefix of the input that some stream goes on from; or the start of a
-- message that goes on above its limit; or the start of the message in which the input ends
abbrev pub IsPlaced : List ℕ → ℕ → Fault → Type 0
IsPlaced input place Syntax = IsPlace input place × (place < length input)
IsPlaced input place Long = IsWhole (take (place + message_limit) input) place × IsViable (take (place + message_limit + 1) input)
    × (place + message_limit < length input)
IsPlaced input place Cut = IsInside input place

-- the report on an input that is not fine ends with the line of a stop, which stands at its place
abbrev pub StopsArePlaced : Type 0
StopsArePlaced = (report : Report) (input output : List ℕ) → IsReport report input output → ¬ (IsFine input)
    → (messages : List Placed) × (place : ℕ) × (fault : Fault) × (output ≡ lines_of report messages ++ stop_line place fault) × IsPlaced input place fault

-- a report that is done has read all of the input, which is fine and below the limit, and has given all of the report
abbrev pub DoneIsFine : Type 0
DoneIsFine = (report : Report) (old new : Outside) → Ended report old new Done
    → IsAtEnd new.left × ((input : List ℕ) → old.left ≡ Some input
    → IsFine input × (length input < INPUT_LIMIT) × ((output : List ℕ) → IsReport report input output → Appends old.outlet.given new.outlet.given output))

-- a report that stopped has given all of the report on an input that is not fine
abbrev pub StoppedIsNotFine : Type 0
StoppedIsNotFine = (report : Report) (old new : Outside) (input : List ℕ) → Ended report old new Stopped → old.left ≡ Some input
    → (¬ (IsFine input)) × ((output : List ℕ) → IsReport report input output → Appends old.outlet.given new.outlet.given output)

-- whatever the ending, what was given is a prefix of the report on all that the source held
abbrev pub GivenBeginsReport : Type 0
GivenBeginsReport = (report : Report) (old new : Outside) (ending : Ending) (input output : List ℕ) → Ended report old new ending → old.left ≡ Some input
    → IsReport report input output → AppendsPart old.outlet.given new.outlet.given output

-- where too many bytes were taken the source held as many
abbrev pub SpentIsFull : Type 0
SpentIsFull = (report : Report) (old new : Outside) (input : List ℕ) → Ended report old new Spent → old.left ≡ Some input → INPUT_LIMIT ≤ length input

-- without a fault of the source or the sink, and with memory, an input is reported by what it is: fine, or not, or too long to
-- be read to its end
abbrev pub ReportsAreComplete : Type 0
ReportsAreComplete = (report : Report) (old new : Outside) (ending : Ending) (input : List ℕ) → Ended report old new ending → old.left ≡ Some input
    → ¬ (Rose old.reads new.reads) → ¬ (Rose old.outlet.faults new.outlet.faults)
    → (ending ≡ NoMemory) ⊎ ((ending ≡ Done) × IsFine input × (length input < INPUT_LIMIT))
    ⊎ ((ending ≡ Stopped) × (¬ (IsFine input))) ⊎ ((ending ≡ Spent) × (INPUT_LIMIT ≤ length input))

-- the source is blamed only where its count of faults rose
abbrev pub ReadFaultsHaveCauses : Type 0
ReadFaultsHaveCauses = (report : Report) (old new : Outside) → Ended report old new ReadFault → Rose old.reads new.reads

-- and the sink only where its count did
abbrev pub WriteFaultsHaveCauses : Type 0
WriteFaultsHaveCauses = (report : Report) (old new : Outside) → Ended report old new WriteFault → Rose old.outlet.faults new.outlet.faults

-- at the other endings neither rose
abbrev pub OthersHaveNone : Type 0
OthersHaveNone = (report : Report) (old new : Outside) (ending : Ending) → Ended report old new ending → ending ≢ ReadFault → ending ≢ WriteFault
    → (new.reads ≡ old.reads) × (new.outlet.faults ≡ old.outlet.faults)
