-- What the parts of a replay stand for, of which its private functions speak.
use Rattle.std.specs.Prelude.{◌≡◌, ◌⊎◌, ℕ, ◌+◌, ◌<◌, ◌≤◌, ◌^◌, Bool, true, false, List, [], ◌∷◌, ◌++◌, length, take, drop, Option, Some, None, Result, Ok, Err, ⊤}
use Rattle.std.specs.Ordering.{nat_cmp}
use Rattle.std.specs.BTreeMap as tree
use Rattle.std.specs.Io.KnownBytes.{Appends}
use Rattle.link_table.specs.Links.{is_open, state_of, pending_of}
use Rattle.ssap_grammar.specs.Stream.{Placed, Stream, IsInside}
use Rattle.ssap_decode.specs.Decoding.{Decoding}
use Rattle.ssap_decode.specs.Standing as decoding
use Rattle.ssap_decode.specs.declared.framed.Framed.{Framed}
use Rattle.ssap_decode.specs.declared.framed.Stop as stop
use Rattle.ssap_shape.specs.Shape.{IsShape}
use Rattle.ssap_shape.specs.declared.request.Arrived.{Arrived}
use Rattle.ssap_shape.specs.declared.request.Arrived.TheVariants.{NotRequest}
use Rattle.session_core.specs.Space.{Space}
use Rattle.session_core.specs.Runs.{run_from}
use Rattle.session_core.specs.declared.call.Reply.{Reply}
use Rattle.session_core.specs.declared.call.Reply.TheVariants.{Opened}
use Rattle.sib_io.specs.Causes.{Rose, AppendsPart}
use Rattle.sib_script.specs.declared.entry.Entry.{Entry}
use Rattle.sib_script.specs.declared.entry.Entry.TheVariants.{NewLink, Bytes, End}
use Rattle.sib_script.specs.Script.{script_spelling, entry_spelling, IsEntry, AreEntries, BeginsScript}
use Rattle.sib_script.specs.Reading.{Reading, IsPart}
use Rattle.sib_replay.specs.Doing.{Seen, Does, DoesPart, IsCause}
use Rattle.sib_replay.specs.Output.{Event, Arrives, Stops as Stopped, AreLet, AreHeard, AreTaken, IsTaken, IsOutput, heard, arrived_on, space_after, calls_at, reason_on, event_lines, event_rows, answers_after, rows_after, answers, rows}
use Rattle.sib_replay.specs.Ending.{GivesFault, GivesAll, ReadsWithin}
use Rattle.sib_replay.specs.declared.acting.Reason.{Reason}
use Rattle.sib_replay.specs.declared.ending.Fault.{Fault}
use Rattle.sib_replay.specs.declared.ending.Ending.{Ending}
use Rattle.sib_replay.specs.declared.ending.Ending.TheVariants.{Done, BadScript, ReadFault, WriteFault, NoMemory, Spent}
use Rattle.sib_replay.specs.declared.why.Why.{Why}
use Rattle.sib_replay.specs.declared.why.Why.TheVariants.{Syntax, Long, Cut, Request}
use Rattle.sib_replay.specs.declared.session.Session.{Session}

-- why a link stops where its decoder does
abbrev pub why_of : stop.Stop → Option Why
why_of (stop.TheVariants.Syntax place) = Some (Syntax place)
why_of (stop.TheVariants.TooLong start) = Some (Long start)
why_of (stop.TheVariants.Cut start) = Some (Cut start)
why_of stop.TheVariants.NoMemory = None

-- why a link stops, where the reason that there is is of this link
abbrev pub reason_in : Option Reason → ℕ → Option Why
reason_in None link = None
reason_in (Some reason) link = reason_on link reason.link reason.why

-- the reason that what came on a link gives: a message that begins here is no request
abbrev pub reason_from : ℕ → ℕ → Arrived → Option Reason
reason_from link start NotRequest = Some (record { link = link; why = Request start })
reason_from link start arrived = None

-- the number of the link that a reply opens, if it opens one
abbrev pub opened_in : Reply → Option ℕ
opened_in (Opened link) = Some link
opened_in reply = None

-- numbers rise, from this one on
abbrev pub AreRising : ℕ → List ℕ → Type 0
AreRising least [] = ⊤
AreRising least (number ∷ numbers) = (least ≤ number) × AreRising (number + 1) numbers

-- no message waits on any link
abbrev pub IsDrained : Space → Type 0
IsDrained space = (link : ℕ) → pending_of space.links link ≡ []

-- a decoder took all the bytes that came on its link, and all of their messages, of which so many came, were given
pub record Follows (decoder : Decoding) (heard : List ℕ) (came : ℕ) : Type 0 where
  pub stands : decoding.Stands decoder heard came
  pub idle : decoder.waiting ≡ None
  pub sound : decoder.stopped ≡ None
  pub messages : List Placed
  pub counted : came ≡ length messages
  pub through : AreLet heard messages

-- a decoder follows what came on its link
abbrev pub IsFollowing : Decoding → Type 0
IsFollowing decoder = (heard : List ℕ) × (came : ℕ) × Follows decoder heard came

-- a message that came behind other events is this event, after which its link is open
abbrev pub IsArrival : List ℕ → List Event → ℕ → Placed → Event → Type 0
IsArrival name before link message event = (arrived : Arrived) × IsShape message.envelope arrived × (event ≡ Arrives link message.start arrived)
    × (is_open (state_of (space_after name (before ++ event ∷ [])).links link) ≡ true)

-- a space is that behind some events
abbrev pub IsBehind : Space → Type 0
IsBehind space = (name : List ℕ) × (before : List Event) × (space ≡ space_after name before)

-- messages that came one after another are these events
abbrev pub AreArrivals : List ℕ → List Event → ℕ → List Placed → List Event → Type 0
AreArrivals name before link [] [] = ⊤
AreArrivals name before link [] (event ∷ events) = ⊥
AreArrivals name before link (message ∷ messages) [] = ⊥
AreArrivals name before link (message ∷ messages) (event ∷ events) = IsArrival name before link message event
    × AreArrivals name (before ++ event ∷ []) link messages events

-- of the messages that came on a link all behind the first are these events, behind which the link is open
pub record Hearing (name : List ℕ) (before : List Event) (link came : ℕ) (heard : List ℕ) (events : List Event) (space : Space) (decoder : Decoding) : Type 0 where
  pub follows : Follows decoder heard (came + length events)
  pub are : AreArrivals name before link (drop came follows.messages) events
  pub does : space ≡ space_after name (before ++ events)
  pub runs : is_open (state_of space.links link) ≡ true

-- a prefix was given of all that is written for what is heard of these bytes of a link
abbrev pub HearsPart : List ℕ → List Event → ℕ → ℕ → List ℕ → Seen → Seen → Type 0
HearsPart name before link came bytes old new = (all : List Event) → AreHeard name before link came bytes all → DoesPart old new (answers_after name before all) (rows_after name before all)

-- after some bytes more a link goes on, or it stops and passes over the rest
abbrev pub HearsSome : List ℕ → List Event → ℕ → ℕ → List ℕ → List Event → List ℕ → Seen → Seen → Space → Decoding → Option ℕ → Type 0
HearsSome name before link came heard events bytes old new space decoder (Some count) = (more : List Event)
    × Hearing name before link came (heard ++ take count bytes) (events ++ more) space decoder
    × Does old new (answers_after name before (events ++ more)) (rows_after name before (events ++ more))
HearsSome name before link came heard events bytes old new space decoder None = (last : Event)
    × AreHeard name before link came (heard ++ bytes) (events ++ last ∷ []) × (space ≡ space_after name (before ++ (events ++ last ∷ [])))
    × (is_open (state_of space.links link) ≡ false)
    × Does old new (answers_after name before (events ++ last ∷ [])) (rows_after name before (events ++ last ∷ []))

-- the same, or a fault stops it behind a prefix
abbrev pub HearsOn : List ℕ → List Event → ℕ → ℕ → List ℕ → List Event → List ℕ → Seen → Seen → Space → Decoding → Result (Option ℕ) Fault → Type 0
HearsOn name before link came heard events bytes old new space decoder (Ok took) = HearsSome name before link came heard events bytes old new space decoder took
HearsOn name before link came heard events bytes old new space decoder (Err fault) = HearsPart name before link came (heard ++ bytes) old new × IsCause old new fault

-- a message came and was answered: whether its link is open then. Out of memory it may come to nothing
abbrev pub TakesFramed : ℕ → Space → Framed → Space → Seen → Seen → Result Bool Fault → Type 0
TakesFramed link space framed next old new (Ok on) = (arrived : Arrived) × IsShape framed.envelope arrived
    × (next ≡ run_from space (calls_at space (Arrives link framed.start arrived))) × (on ≡ is_open (state_of next.links link))
    × Does old new (event_lines space (Arrives link framed.start arrived)) (event_rows space (Arrives link framed.start arrived))
TakesFramed link space framed next old new (Err fault) = (Does old new [] 0 × IsCause old new fault)
    ⊎ ((arrived : Arrived) × IsShape framed.envelope arrived
    × DoesPart old new (event_lines space (Arrives link framed.start arrived)) (event_rows space (Arrives link framed.start arrived)) × IsCause old new fault)

-- a link whose decoder stopped ended. Out of memory it may not have stopped
abbrev pub Refuses : ℕ → Space → stop.Stop → Space → Seen → Seen → Result (Unit {0}) Fault → Type 0
Refuses link space at next old new (Ok done) = (why : Why) × (why_of at ≡ Some why) × (next ≡ run_from space (calls_at space (Stopped link why)))
    × Does old new (event_lines space (Stopped link why)) (event_rows space (Stopped link why))
Refuses link space at next old new (Err fault) = (Does old new [] 0 × IsCause old new fault)
    ⊎ ((why : Why) × (why_of at ≡ Some why) × DoesPart old new (event_lines space (Stopped link why)) (event_rows space (Stopped link why)) × IsCause old new fault)

-- a delivery was taken and answered, on a link on which this came before, or a fault stopped it behind a prefix
pub record HearsWhole (name : List ℕ) (before : List Event) (link came : ℕ) (heard bytes : List ℕ) (old new : Seen) (space : Space) (decoder : Decoding) : Type 0 where
  pub events : List Event
  pub taken : AreHeard name before link came (heard ++ bytes) events
  pub does : space ≡ space_after name (before ++ events)
  pub written : Does old new (answers_after name before events) (rows_after name before events)
  pub follows : is_open (state_of space.links link) ≡ true → Follows decoder (heard ++ bytes) (came + arrived_on events link)

abbrev pub HearsAll : List ℕ → List Event → ℕ → ℕ → List ℕ → List ℕ → Seen → Seen → Space → Decoding → Result (Unit {0}) Fault → Type 0
HearsAll name before link came heard bytes old new space decoder (Ok done) = HearsWhole name before link came heard bytes old new space decoder
HearsAll name before link came heard bytes old new space decoder (Err fault) = HearsPart name before link came (heard ++ bytes) old new × IsCause old new fault

-- the input of a link ends: behind its last message, or inside one, which is the reason why it stops
abbrev pub EndsAs : ℕ → List ℕ → Option Reason → Type 0
EndsAs link heard None = (messages : List Placed) × Stream heard messages
EndsAs link heard (Some reason) = (start : ℕ) × IsInside heard start × (reason ≡ record { link = link; why = Cut start })

-- an open link has a decoder, which follows what came on it
abbrev pub Knows : List Event → ℕ → Bool → Option Decoding → Type 0
Knows before link true None = ⊥
Knows before link true (Some decoder) = Follows decoder (heard before link) (arrived_on before link)
Knows before link false found = ⊤

-- nothing came on a link
pub record IsFresh (before : List Event) (link : ℕ) : Type 0 where
  pub unheard : heard before link ≡ []
  pub unmet : arrived_on before link ≡ 0

-- a session stands for what came before
pub record Stands (name : List ℕ) (session : Session) (before : List Event) : Type 0 where
  pub core : session.core.space ≡ space_after name before
  pub drained : IsDrained session.core.space
  pub knows : (link : ℕ) → Knows before link (is_open (state_of session.core.space.links link)) (tree.get nat_cmp session.decoders link)
  pub fresh : (link : ℕ) → length session.core.space.links < link → IsFresh before link

-- the bytes on the link of an entry, with its own, can be counted
abbrev pub Fits : List Event → Entry → Type 0
Fits before NewLink = ⊤
Fits before (Bytes link bytes) = length (heard before link) + length bytes < 2 ^ 63
Fits before (End link) = ⊤

-- a session stands for something, behind which the bytes of the entry can be counted
abbrev pub CanAnswer : Session → Entry → Type 0
CanAnswer session entry = (name : List ℕ) × (before : List Event) × Stands name session before × Fits before entry

-- a session answered an entry: what was done, and what it stands for then
pub record Answers (name : List ℕ) (before : List Event) (entry : Entry) (old new : Seen) (session : Session) : Type 0 where
  pub events : List Event
  pub taken : IsTaken name before entry events
  pub answer : Does old new (answers_after name before events) (rows_after name before events)
  pub stands : Stands name session (before ++ events)

-- an entry was answered, or a fault stopped the answer behind a prefix of it
abbrev pub Delivers : List ℕ → List Event → Entry → Seen → Seen → Session → Result (Unit {0}) Fault → Type 0
Delivers name before entry old new session (Ok done) = Answers name before entry old new session
Delivers name before entry old new session (Err fault) = ((events : List Event) → IsTaken name before entry events
    → DoesPart old new (answers_after name before events) (rows_after name before events)) × IsCause old new fault

-- what was given is a prefix of all that is written for the bytes that were read, whatever follows them
abbrev pub GivesFront : List ℕ → Option (List ℕ) → Option (List ℕ) → List ℕ → Type 0
GivesFront name old new read = (more output : List ℕ) → IsOutput name (read ++ more) output → AppendsPart old new output

-- a reader and a session stand for the bytes that were read, and the answers to the whole entries in them were given
pub record Replays (name : List ℕ) (old new : Seen) (read : List ℕ) (reader : Reading) (session : Session) : Type 0 where
  pub entries : List Entry
  pub events : List Event
  pub allowed : AreEntries entries
  pub spelled : read ≡ script_spelling entries ++ reader.unread
  pub part : IsPart reader.unread ⊎ (reader.unread ≡ [])
  pub waiting : reader.waiting ≡ None
  pub running : reader.stopped ≡ false
  pub taken : reader.taken ≡ length read
  pub told : AreTaken name entries events
  pub stands : Stands name session events
  pub does : Does old new (answers name events) (rows name events)

-- the same, with one entry more that was read and not answered yet
pub record Holds (name : List ℕ) (old new : Seen) (read : List ℕ) (entry : Entry) (reader : Reading) (session : Session) : Type 0 where
  pub entries : List Entry
  pub events : List Event
  pub allowed : AreEntries entries
  pub comes : IsEntry entry
  pub small : length read < 2 ^ 60
  pub spelled : read ≡ script_spelling entries ++ entry_spelling entry
  pub unread : reader.unread ≡ []
  pub waiting : reader.waiting ≡ None
  pub running : reader.stopped ≡ false
  pub taken : reader.taken ≡ length read
  pub told : AreTaken name entries events
  pub stands : Stands name session events
  pub does : Does old new (answers name events) (rows name events)

-- what was done for bytes that were not answered to their end: a prefix was given, within the rows of their calls
pub record Parts (name : List ℕ) (old new : Seen) (read : List ℕ) : Type 0 where
  pub gives : GivesFront name old.given new.given read
  pub counts : ReadsWithin name old.steps new.steps read

-- what holds where the answer to an entry could not be given
abbrev pub Fails : List ℕ → Seen → Seen → List ℕ → Fault → Type 0
Fails name old new read fault = Parts name old new read × IsCause old new fault

-- what holds where these bytes were read and could not all be answered
abbrev pub Stops : List ℕ → Seen → Seen → List ℕ → Ending → Type 0
Stops name old new read Done = ⊥
Stops name old new read BadScript = (new.faults ≡ old.faults) × ¬ (BeginsScript read) × ReadsWithin name old.steps new.steps read × (rest : List ℕ) × GivesFault name old.given new.given read rest
Stops name old new read ReadFault = ⊥
Stops name old new read WriteFault = Rose old.faults new.faults × Parts name old new read
Stops name old new read NoMemory = (new.faults ≡ old.faults) × Parts name old new read
Stops name old new read Spent = ⊥

-- bytes were read and answered, or they could not all be answered
abbrev pub Feeds : List ℕ → Seen → Seen → List ℕ → List ℕ → Reading → Session → Result ℕ Ending → Type 0
Feeds name old new read bytes reader session (Ok count) = Replays name old new (read ++ take count bytes) reader session
Feeds name old new read bytes reader session (Err ending) = Stops name old new (read ++ bytes) ending

-- all of the bytes were read and answered, or they could not all be
abbrev pub FeedsAll : List ℕ → Seen → Seen → List ℕ → Reading → Session → Result (Unit {0}) Ending → Type 0
FeedsAll name old new read reader session (Ok done) = Replays name old new read reader session
FeedsAll name old new read reader session (Err ending) = Stops name old new read ending

-- an entry was answered, or a fault stopped the answer
abbrev pub Settles : List ℕ → Seen → Seen → List ℕ → Reading → Session → Result (Unit {0}) Fault → Type 0
Settles name old new read reader session (Ok done) = Replays name old new read reader session
Settles name old new read reader session (Err fault) = Fails name old new read fault

-- a line was given before this ending, or a prefix of it where the sink failed, or nothing out of memory
abbrev pub WritesLast : Option (List ℕ) → Option (List ℕ) → ℕ → ℕ → List ℕ → Ending → Ending → Type 0
WritesLast old new faults now line ending Done = (ending ≡ Done) × Appends old new line × (now ≡ faults)
WritesLast old new faults now line ending BadScript = (ending ≡ BadScript) × Appends old new line × (now ≡ faults)
WritesLast old new faults now line ending ReadFault = ⊥
WritesLast old new faults now line ending WriteFault = Rose faults now × AppendsPart old new line
WritesLast old new faults now line ending NoMemory = (new ≡ old) × (now ≡ faults)
WritesLast old new faults now line ending Spent = ⊥

-- what was given is a prefix of all that is written for the bytes that were read, after which none follow
abbrev pub GivesEnd : List ℕ → Option (List ℕ) → Option (List ℕ) → List ℕ → Type 0
GivesEnd name old new read = (output : List ℕ) → IsOutput name read output → AppendsPart old new output

-- what holds where no byte follows those that were read
abbrev pub Finishes : List ℕ → Seen → Option (List ℕ) → ℕ → List ℕ → Ending → Type 0
Finishes name old new now read Done = (now ≡ old.faults) × GivesAll name old.given new read
Finishes name old new now read BadScript = (now ≡ old.faults) × (rest : List ℕ) × GivesFault name old.given new read rest
Finishes name old new now read ReadFault = ⊥
Finishes name old new now read WriteFault = Rose old.faults now × GivesEnd name old.given new read
Finishes name old new now read NoMemory = (now ≡ old.faults) × GivesEnd name old.given new read
Finishes name old new now read Spent = ⊥

-- what is seen where nothing is told
abbrev pub unseen : Seen
unseen = record { given = None; faults = 0; steps = 0 }

-- a reader and a session stand for some bytes
abbrev pub IsOngoing : Reading → Session → Type 0
IsOngoing reader session = (name : List ℕ) × (read : List ℕ) × Replays name unseen unseen read reader session

-- an entry that was read can be answered
abbrev pub IsHeld : Entry → Reading → Session → Type 0
IsHeld entry reader session = (name : List ℕ) × (read : List ℕ) × Holds name unseen unseen read entry reader session
