-- The report on an input: which messages it has, how it ends, and what is written of that.
use Rattle.std.specs.Prelude.{◌≡◌, ℕ, ◌+◌, List, [], ◌∷◌, ◌++◌, length, flat_map, codes, Option, Some, None}
use Rattle.std.specs.Fmt.{decimal}
use Rattle.std.specs.List.{AllByRecursion}
use Rattle.ssap_items.specs.declared.envelope.Envelope.{Envelope}
use Rattle.ssap_items.specs.Canon.{canonical}
use Rattle.ssap_grammar.specs.Stream.{Placed, Stream, IsViable, IsWhole, IsInside}
use Rattle.ssap_decode.specs.Decoding.{message_limit}
use Rattle.ssap_decode.specs.Standing.{IsShort}
use Rattle.ssap_decode.specs.declared.framed.Stop.{Stop}
use Rattle.ssap_decode.specs.declared.framed.Stop.TheVariants as stop
use Rattle.ssap_hearing.specs.Hearing.{AreLet}
use Rattle.stream_report.specs.declared.ending.Ending.{Ending}
use Rattle.stream_report.specs.declared.ending.Ending.TheVariants.{Done, Stopped}
use Rattle.stream_report.specs.declared.verdict.Report.{Report}
use Rattle.stream_report.specs.declared.verdict.Report.TheVariants.{Show, Check}
use Rattle.stream_report.specs.declared.verdict.Fault.{Fault}
use Rattle.stream_report.specs.declared.verdict.Fault.TheVariants.{Syntax, Long, Cut}
use Rattle.stream_report.specs.declared.verdict.Verdict.{Verdict}
use Rattle.stream_report.specs.declared.verdict.Verdict.TheVariants.{Fine, Stops}

-- the input is a stream of these messages, and none is too long
pub record IsFineOf (input : List ℕ) (messages : List Placed) : Type 0 where
  pub stream : Stream input messages
  pub short : AllByRecursion IsShort messages

-- the input is a stream, and none of its messages is too long
abbrev pub IsFine : List ℕ → Type 0
IsFine input = (messages : List Placed) × IsFineOf input messages

-- how an input ends behind a prefix that is let through: where nothing follows it is a stream, or ends inside a message; where a
-- byte follows no stream goes on with it, or one does and the byte is the first above the limit of its message
abbrev pub EndsBehind : List ℕ → List ℕ → Verdict → Type 0
EndsBehind front [] Fine = (messages : List Placed) × Stream front messages
EndsBehind front [] (Stops place Syntax) = ⊥
EndsBehind front [] (Stops place Long) = ⊥
EndsBehind front [] (Stops place Cut) = IsInside front place
EndsBehind front (byte ∷ rest) Fine = ⊥
EndsBehind front (byte ∷ rest) (Stops place Syntax) = (¬ (IsViable (front ++ byte ∷ []))) × (place ≡ length front)
EndsBehind front (byte ∷ rest) (Stops place Long) = IsViable (front ++ byte ∷ []) × IsWhole front place × (length front ≡ place + message_limit)
EndsBehind front (byte ∷ rest) (Stops place Cut) = ⊥

-- the grammar and the limit of messages let a prefix of the input through, of these messages, and behind it the input ends so
pub record IsJudged (input : List ℕ) (messages : List Placed) (verdict : Verdict) : Type 0 where
  pub front : List ℕ
  pub rest : List ℕ
  pub split : input ≡ front ++ rest
  pub through : AreLet front messages
  pub ends : EndsBehind front rest verdict

-- a message on a line of its own, in its canonical spelling, where messages are shown
abbrev pub message_line : Report → Envelope → List ℕ
message_line Show envelope = canonical envelope ++ 10 ∷ []
message_line Check envelope = []

-- what is written of messages as they come
abbrev pub lines_of : Report → List Placed → List ℕ
lines_of report messages = flat_map (λ (message : Placed). message_line report message.envelope) messages

-- the line of a stream of so many messages
unfoldable pub ok_line : ℕ → List ℕ
ok_line count = codes "ok " ++ decimal count ++ 10 ∷ []

-- the word for why an input is no stream
unfoldable pub fault_word : Fault → List ℕ
fault_word Syntax = codes "syntax"
fault_word Long = codes "long"
fault_word Cut = codes "cut"

-- the line of an input that stops here
unfoldable pub stop_line : ℕ → Fault → List ℕ
stop_line place fault = codes "! " ++ decimal place ++ codes " " ++ fault_word fault ++ 10 ∷ []

-- the last line of a report on so many messages, if it has one
abbrev pub last_line : Report → ℕ → Verdict → List ℕ
last_line Show count Fine = []
last_line Check count Fine = ok_line count
last_line report count (Stops place fault) = stop_line place fault

-- all that is written of an input that has these messages and ends so
abbrev pub report_of : Report → List Placed → Verdict → List ℕ
report_of report messages verdict = lines_of report messages ++ last_line report (length messages) verdict

-- this is the report on the input
abbrev pub IsReport : Report → List ℕ → List ℕ → Type 0
IsReport report input output = (messages : List Placed) × (verdict : Verdict) × IsJudged input messages verdict
    × (output ≡ report_of report messages verdict)

-- what a stop of the decoder says of an input: nothing where it is out of memory
abbrev pub verdict_at : Stop → Option Verdict
verdict_at (stop.Syntax place) = Some (Stops place Syntax)
verdict_at (stop.TooLong start) = Some (Stops start Long)
verdict_at (stop.Cut start) = Some (Stops start Cut)
verdict_at stop.NoMemory = None

-- how a report ends that was written whole
abbrev pub ending_of : Verdict → Ending
ending_of Fine = Done
ending_of (Stops place fault) = Stopped
