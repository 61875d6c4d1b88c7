-- What a replay writes: a function of the events that the entries of the script cause. Every answer is computed afresh from
-- all that came before.
use Rattle.std.specs.Prelude.{◌≡◌, ◌⊎◌, ℕ, ◌+◌, ◌≤◌, Bool, true, false, ◌==◌, if◌then◌else◌, List, [], ◌∷◌, ◌++◌, flat_map, replicate, length, drop, codes, Option, Some, None, MatchBool, ⊤}
use Rattle.std.specs.List.{count_by, AllByRecursion}
use Rattle.std.specs.Fmt.{decimal}
use Rattle.link_table.specs.Links.{is_open, state_of, pending_of}
use Rattle.link_table.specs.declared.state.LinkState.{LinkState}
use Rattle.link_table.specs.declared.state.LinkState as state
use Rattle.ssap_grammar.specs.Stream.{Placed, Stream, IsViable, IsWhole, AreMessages, IsInside}
use Rattle.ssap_decode.specs.Decoding.{message_limit}
use Rattle.ssap_decode.specs.Standing.{IsShort}
use Rattle.ssap_shape.specs.Shape.{IsShape}
use Rattle.ssap_shape.specs.declared.request.Arrived.{Arrived}
use Rattle.ssap_shape.specs.declared.request.Arrived.TheVariants.{NotRequest}
use Rattle.session_core.specs.Space.{Space, empty_space}
use Rattle.session_core.specs.Steps.{step, live_subscriptions}
use Rattle.session_core.specs.Runs.{run_from}
use Rattle.session_core.specs.declared.call.Call.{Call}
use Rattle.session_core.specs.declared.call.Call as call
use Rattle.session_core.specs.declared.call.Reply.{Reply}
use Rattle.session_core.specs.declared.call.Reply.TheVariants.{Done, TooManyLinks}
use Rattle.sib_script.specs.declared.entry.Entry.{Entry}
use Rattle.sib_script.specs.declared.entry.Entry.TheVariants.{NewLink, Bytes, End}
use Rattle.sib_script.specs.Script.{Splits, IsPlace}
use Rattle.session_core.specs.Reads.{costs}
use Rattle.sib_replay.specs.declared.why.Why.{Why}
use Rattle.sib_replay.specs.declared.why.Why.TheVariants.{Syntax, Long, Cut, Request, Overrun}

-- an event that an entry causes
pub data Event : Type 0 where
  -- a link is asked for
  Opens : Event
  -- these bytes come on this open link
  Hears : (link : ℕ) (bytes : List ℕ) → Event
  -- a message that they complete, which begins at this place of the link, comes to this
  Arrives : (link place : ℕ) (arrived : Arrived) → Event
  -- the bytes of this open link stop it
  Stops : (link : ℕ) (why : Why) → Event
  -- the input of this open link ends, and no message is cut
  Ends : (link : ℕ) → Event
  -- the entry is of this link, which isn't open
  Closed : (link : ℕ) → Event

-- the call that an event makes, if it makes one
abbrev pub call_of : Event → Option Call
call_of Opens = Some call.TheVariants.NewLink
call_of (Hears link bytes) = None
call_of (Arrives link place arrived) = Some (call.TheVariants.Deliver link arrived)
call_of (Stops link why) = Some (call.TheVariants.End link)
call_of (Ends link) = Some (call.TheVariants.End link)
call_of (Closed link) = None

-- the links that a reply tells
abbrev pub ring_of : Reply → List ℕ
ring_of (Done ring) = ring
ring_of reply = []

-- one call for each message that waits on some links, link by link
abbrev pub takes : Space → List ℕ → List Call
takes space ring = flat_map (λ link. replicate (length (pending_of space.links link)) (call.TheVariants.Take link)) ring

-- the calls that follow from one: that call, and then what waits on the links that its reply tells is taken
abbrev pub calls_with : Space → Option Call → List Call
calls_with space None = []
calls_with space (Some call) = call ∷ takes (step space call).space (ring_of (step space call).reply)

-- the calls of an event
abbrev pub calls_at : Space → Event → List Call
calls_at space event = calls_with space (call_of event)

-- the space after events, one after another
abbrev pub space_from : Space → List Event → Space
space_from space [] = space
space_from space (event ∷ events) = space_from (run_from space (calls_at space event)) events

-- the space of this name after events
abbrev pub space_after : List ℕ → List Event → Space
space_after name before = space_from (empty_space name) before

-- the calls of events, one event after another
abbrev pub calls_from : Space → List Event → List Call
calls_from space [] = []
calls_from space (event ∷ events) = calls_at space event ++ calls_from (run_from space (calls_at space event)) events

-- the history of the calls that events make in the space of this name
abbrev pub history : List ℕ → List Event → List Call
history name events = calls_from (empty_space name) events

-- the most rows that an event reads in a space
abbrev pub event_rows : Space → Event → ℕ
event_rows space event = costs space (calls_at space event)

-- the most rows that events read in a space
abbrev pub rows_from : Space → List Event → ℕ
rows_from space events = costs space (calls_from space events)

-- the most rows that events read after others
abbrev pub rows_after : List ℕ → List Event → List Event → ℕ
rows_after name before events = rows_from (space_after name before) events

-- the most rows that the calls of a history read
abbrev pub rows : List ℕ → List Event → ℕ
rows name events = costs (empty_space name) (history name events)

-- the bytes that an event brings on this link
abbrev pub brought_on : ℕ → Event → List ℕ
brought_on link (Hears other bytes) = if other == link then bytes else []
brought_on link event = []

-- a message comes on this link
abbrev pub arrives_on : ℕ → Event → Bool
arrives_on link (Arrives other place arrived) = other == link
arrives_on link event = false

-- a link is open after these events
abbrev pub is_open_after : List ℕ → List Event → ℕ → Bool
is_open_after name before link = is_open (state_of (space_after name before).links link)

-- all the bytes that came on a link while it was open
abbrev pub heard : List Event → ℕ → List ℕ
heard before link = flat_map (brought_on link) before

-- how many messages came on a link
abbrev pub arrived_on : List Event → ℕ → ℕ
arrived_on before link = count_by (arrives_on link) before

-- the grammar and the limit let these bytes through, whose messages these are: a stream goes on from them, and neither one
-- of the messages nor what stands behind them is too long
pub record AreLet (bytes : List ℕ) (messages : List Placed) : Type 0 where
  pub viable : IsViable bytes
  pub are : AreMessages bytes messages
  pub short : AllByRecursion IsShort messages
  pub rest_short : (whole : ℕ) → IsWhole bytes whole → length bytes ≤ whole + message_limit

-- behind these bytes nothing follows; or no stream goes on with the byte that does; or one does, and the byte is the first
-- above the limit of the message that begins at start
abbrev pub StopsBehind : List ℕ → List ℕ → Option Why → Type 0
StopsBehind front [] None = ⊤
StopsBehind front [] (Some why) = ⊥
StopsBehind front (byte ∷ rest) None = ⊥
StopsBehind front (byte ∷ rest) (Some (Syntax place)) = (¬ (IsViable (front ++ byte ∷ []))) × (place ≡ length front)
StopsBehind front (byte ∷ rest) (Some (Long start)) = IsViable (front ++ byte ∷ []) × IsWhole front start × (length front ≡ start + message_limit)
StopsBehind front (byte ∷ rest) (Some (Cut start)) = ⊥
StopsBehind front (byte ∷ rest) (Some (Request start)) = ⊥
StopsBehind front (byte ∷ rest) (Some Overrun) = ⊥

-- the bytes of the link stop it, if they do
abbrev pub stops_of : ℕ → Option Why → List Event
stops_of link None = []
stops_of link (Some why) = Stops link why ∷ []

-- others follow where the link is still open behind an event
abbrev pub GoesOn : Bool → Event → (List Event → Type 0) → List Event → Type 0
GoesOn true event Others events = (others : List Event) × (events ≡ event ∷ others) × Others others
GoesOn false event Others events = events ≡ event ∷ []

-- messages come one after another, as long as their link is open; behind the last stands what stops the link, if anything
-- does
abbrev pub AreArrived : List ℕ → List Event → ℕ → List ℕ → List ℕ → List Placed → List Event → Type 0
AreArrived name before link front rest [] events = (stop : Option Why) × StopsBehind front rest stop × (events ≡ stops_of link stop)
AreArrived name before link front rest (message ∷ messages) events = (arrived : Arrived) × IsShape message.envelope arrived
    × GoesOn (is_open_after name (before ++ Arrives link message.start arrived ∷ []) link) (Arrives link message.start arrived)
    (AreArrived name (before ++ Arrives link message.start arrived ∷ []) link front rest messages) events

-- the events of all the bytes of a link, of whose messages so many came before: the messages behind those, in a
-- prefix of the bytes that is let through. It is the longest such prefix, or has a message behind which the link isn't open:
-- what follows that is passed over
pub record AreHeard (name : List ℕ) (before : List Event) (link came : ℕ) (bytes : List ℕ) (events : List Event) : Type 0 where
  pub front : List ℕ
  pub rest : List ℕ
  pub split : bytes ≡ front ++ rest
  pub messages : List Placed
  pub through : AreLet front messages
  pub taken : AreArrived name before link front rest (drop came messages) events

-- the events of a delivery on an open link
abbrev pub IsHeard : List ℕ → List Event → ℕ → List ℕ → List Event → Type 0
IsHeard name before link bytes events = (others : List Event) × (events ≡ Hears link bytes ∷ others)
    × AreHeard name (before ++ Hears link bytes ∷ []) link (arrived_on before link) (heard before link ++ bytes) others

-- the events of the end of an open link's input: it comes behind the last message, or inside one
abbrev pub IsEnded : List Event → ℕ → List Event → Type 0
IsEnded before link events = ((messages : List Placed) × Stream (heard before link) messages × (events ≡ Ends link ∷ []))
    ⊎ ((start : ℕ) × IsInside (heard before link) start × (events ≡ Stops link (Cut start) ∷ []))

-- the events that an entry after others causes
abbrev pub IsTaken : List ℕ → List Event → Entry → List Event → Type 0
IsTaken name before NewLink events = events ≡ Opens ∷ []
IsTaken name before (Bytes link bytes) events = MatchBool (is_open_after name before link) (IsHeard name before link bytes events) (events ≡ Closed link ∷ [])
IsTaken name before (End link) events = MatchBool (is_open_after name before link) (IsEnded before link events) (events ≡ Closed link ∷ [])

-- the events that entries after others cause, one after another
abbrev pub AreTakenAfter : List ℕ → List Event → List Entry → List Event → Type 0
AreTakenAfter name before [] events = events ≡ []
AreTakenAfter name before (entry ∷ entries) events = (first : List Event) × (others : List Event) × (events ≡ first ++ others)
    × IsTaken name before entry first × AreTakenAfter name (before ++ first) entries others

-- the events that the entries of a script cause in the space of this name
abbrev pub AreTaken : List ℕ → List Entry → List Event → Type 0
AreTaken name entries events = AreTakenAfter name [] entries events

-- the line before a message: its link and its length
unfoldable pub header_line : ℕ → ℕ → List ℕ
header_line link size = codes "<" ++ decimal link ++ codes " " ++ decimal size ++ 10 ∷ []

-- a message as it is written, behind a line with its link and its length
unfoldable pub message_lines : ℕ → List ℕ → List ℕ
message_lines link message = header_line link (length message) ++ (message ++ 10 ∷ [])

-- the place that is told of a stop
abbrev pub place_of : Why → ℕ
place_of (Syntax place) = place
place_of (Long start) = start
place_of (Cut start) = start
place_of (Request start) = start
place_of Overrun = 0

-- the word that is told of it
unfoldable pub kind_of : Why → List ℕ
kind_of (Syntax place) = codes "syntax"
kind_of (Long start) = codes "long"
kind_of (Cut start) = codes "cut"
kind_of (Request start) = codes "request"
kind_of Overrun = codes "overrun"

-- the line of a link that stops
unfoldable pub stop_line : ℕ → Why → List ℕ
stop_line link why = codes "!" ++ decimal link ++ codes " " ++ decimal (place_of why) ++ codes " " ++ kind_of why ++ 10 ∷ []

-- the line of an entry whose link isn't open
unfoldable pub closed_line : ℕ → List ℕ
closed_line link = codes "!" ++ decimal link ++ codes " 0 closed" ++ 10 ∷ []

-- the line where no link may open, beside so many that count
unfoldable pub full_line : ℕ → List ℕ
full_line count = codes "!0 " ++ decimal count ++ codes " full" ++ 10 ∷ []

-- the line of a link that stops, if it does
abbrev pub stop_lines : ℕ → Option Why → List ℕ
stop_lines link None = []
stop_lines link (Some why) = stop_line link why

-- the reason, where it is of this link
abbrev pub reason_on : ℕ → ℕ → Why → Option Why
reason_on link other why = if other == link then Some why else None

-- why an event stops a link, if it does: its bytes stop it, or a message is no request
abbrev pub reason_of : Event → ℕ → Option Why
reason_of Opens link = None
reason_of (Hears other bytes) link = None
reason_of (Arrives other place NotRequest) link = reason_on link other (Request place)
reason_of (Arrives other place arrived) link = None
reason_of (Stops other why) link = reason_on link other why
reason_of (Ends other) link = None
reason_of (Closed other) link = None

-- why a link of this state stops: it is overrun, or for the reason that there is
abbrev pub stop_at : LinkState → Option Why → Option Why
stop_at state.TheVariants.Overrun reason = Some Overrun
stop_at other reason = reason

-- what is written for a link that a call was told of: all that waits on it, and then the line of a stop, if there is one
abbrev pub link_lines : Space → (ℕ → Option Why) → ℕ → List ℕ
link_lines space reason link = flat_map (message_lines link) (pending_of space.links link)
    ++ stop_lines link (stop_at (state_of space.links link) (reason link))

-- what is written for a reply, and the space after it: of each link of its ring, by rising number, what there is; or the line
-- where no link may open
abbrev pub reply_lines : (ℕ → Option Why) → Space → Reply → List ℕ
reply_lines reason space (Done ring) = flat_map (link_lines space reason) ring
reply_lines reason space (TooManyLinks count) = full_line count
reply_lines reason space reply = []

-- what is written for an event that makes no call: that the link isn't open, where that is so
abbrev pub silent_lines : Event → List ℕ
silent_lines (Closed link) = closed_line link
silent_lines event = []

-- what is written for an event and the call that it makes
abbrev pub call_lines : Space → Event → Option Call → List ℕ
call_lines space event None = silent_lines event
call_lines space event (Some call) = reply_lines (reason_of event) (step space call).space (step space call).reply

-- what is written for an event in a space
abbrev pub event_lines : Space → Event → List ℕ
event_lines space event = call_lines space event (call_of event)

-- what is written for an event that comes after others
abbrev pub answer : List ℕ → List Event → Event → List ℕ
answer name before event = event_lines (space_after name before) event

-- what is written for events that come after others, one after another
abbrev pub answers_after : List ℕ → List Event → List Event → List ℕ
answers_after name before [] = []
answers_after name before (event ∷ events) = answer name before event ++ answers_after name (before ++ event ∷ []) events

-- what is written for all events
abbrev pub answers : List ℕ → List Event → List ℕ
answers name events = answers_after name [] events

-- the last line: the accepted updates, the triples, and the live subscriptions
unfoldable pub last_line : Space → List ℕ
last_line space = codes "= " ++ decimal space.updates ++ codes " " ++ decimal (length space.graph) ++ codes " " ++ decimal (live_subscriptions space) ++ 10 ∷ []

-- the line of an input that is no script: its offset is the length of the longest prefix that begins one
unfoldable pub fault_line : ℕ → List ℕ
fault_line place = codes "? " ++ decimal place ++ 10 ∷ []

-- what is written at the end, where these bytes are left behind the last whole entry: the last line after a script, and the
-- place of the fault after what is none
abbrev pub farewell : List ℕ → List Event → ℕ → List ℕ → List ℕ
farewell name events place [] = last_line (space_after name events)
farewell name events place (byte ∷ rest) = fault_line place

-- all that is written for the bytes of an input
abbrev pub IsOutput : List ℕ → List ℕ → List ℕ → Type 0
IsOutput name input output = (entries : List Entry) × (rest : List ℕ) × (events : List Event) × (place : ℕ)
    × Splits input entries rest × IsPlace input place × AreTaken name entries events
    × (output ≡ answers name events ++ farewell name events place rest)

-- for these entries these lines are written, and then the last line where a script ends
abbrev pub Writes : List ℕ → List Entry → List (List ℕ) → Type 0
Writes name entries lines = (events : List Event) × AreTaken name entries events × (answers name events ≡ flat_map (λ line. line) lines)
