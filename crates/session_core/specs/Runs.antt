-- Runs: the space after a history of calls, the updates that were accepted in it, and what was sent and taken on each link.
use Rattle.std.specs.Prelude.{◌≡◌, ℕ, Bool, true, false, ◌&&◌, ◌==◌, if◌then◌else◌, List, [], ◌∷◌, ◌++◌, length, drop, Result, Ok, Err}
use Rattle.m3_terms.specs.declared.memory.NoMemory.{NoMemory}
use Rattle.link_table.specs.Links.{is_open, state_of, pending_of}
use Rattle.ssap_shape.specs.declared.request.Ask.{Ask}
use Rattle.ssap_shape.specs.declared.request.Ask.TheVariants.{Join, Leave, Update, Query, Subscribe, Unsubscribe}
use Rattle.ssap_shape.specs.declared.request.Arrived.{Arrived}
use Rattle.ssap_shape.specs.declared.request.Arrived.TheVariants as arrived
use Rattle.session_core.specs.Space.{Space, State, empty_space}
use Rattle.session_core.specs.Requests.{verdict, is_success}
use Rattle.session_core.specs.Steps.{step}
use Rattle.session_core.specs.declared.call.Call.{Call}
use Rattle.session_core.specs.declared.call.Call.TheVariants.{NewLink, Deliver, End, Lost, Take}
use Rattle.session_core.specs.declared.call.Reply.{Reply}
use Rattle.session_core.specs.declared.call.Reply.TheVariants.{Opened, TooManyLinks, Done, Closed, NoLink, Message, Empty, Over}

-- the space after calls, one after another
abbrev pub run_from : Space → List Call → Space
run_from space [] = space
run_from space (call ∷ calls) = run_from (step space call).space calls

-- the space of this name after a history
abbrev pub run : List ℕ → List Call → Space
run name history = run_from (empty_space name) history

-- the reply to a call after a history
abbrev pub reply_to : List ℕ → List Call → Call → Reply
reply_to name history call = (step (run name history) call).reply

-- a core of this name stands for a history: it has the space after it, and counts its calls
pub record StandsFor (name : List ℕ) (history : List Call) (state : State) : Type 0 where
  pub space : state.space ≡ run name history
  pub count : state.count ≡ length history

-- what a core of this name stands for after a call, where it stood for this history: for the history with the call once it
-- is answered, by the reply that is due to it, and for the history as it was where memory ended
abbrev pub StandsAfter : List ℕ → List Call → Call → Result Reply NoMemory → State → Type 0
StandsAfter name history call (Ok reply) new = StandsFor name (history ++ call ∷ []) new × (reply ≡ reply_to name history call)
StandsAfter name history call (Err refused) new = StandsFor name history new

-- a call takes a core from each history that it stood for to what it stands for after the call
abbrev pub StandsOn : State → Call → Result Reply NoMemory → State → Type 0
StandsOn old call result new = (name : List ℕ) (history : List Call) → StandsFor name history old → StandsAfter name history call result new

-- what is asked for is an update
abbrev pub is_update : Ask → Bool
is_update Join = false
is_update Leave = false
is_update (Update remove insert confirm) = true
is_update (Query wish) = false
is_update (Subscribe wish) = false
is_update (Unsubscribe text) = false

-- what arrived on an open link is an update that is accepted
abbrev pub accepts : Space → Arrived → Bool
accepts space (arrived.Request request) = is_update request.ask && is_success (verdict space request)
accepts space (arrived.Wrong heads status) = false
accepts space arrived.NotRequest = false

-- a call is an update that is accepted
abbrev pub is_accepted : Space → Call → Bool
is_accepted space NewLink = false
is_accepted space (Deliver link arrived) = is_open (state_of space.links link) && accepts space arrived
is_accepted space (End link) = false
is_accepted space (Lost link) = false
is_accepted space (Take link) = false

-- the updates among calls that are accepted, each once, in the order of the calls
abbrev pub updates_from : Space → List Call → List Call
updates_from space [] = []
updates_from space (call ∷ calls) = (if is_accepted space call then call ∷ [] else []) ++ updates_from (step space call).space calls

-- the accepted updates of a history
abbrev pub updates : List ℕ → List Call → List Call
updates name history = updates_from (empty_space name) history

-- the messages that a call sends on a link, which wait behind those that waited: a call that is no delivery sends none
abbrev pub sent_by : Space → Call → ℕ → List (List ℕ)
sent_by space NewLink number = []
sent_by space (Deliver link arrived) number = drop (length (pending_of space.links number)) (pending_of (step space (Deliver link arrived)).space.links number)
sent_by space (End link) number = []
sent_by space (Lost link) number = []
sent_by space (Take link) number = []

-- the messages that calls send on a link
abbrev pub sent_from : Space → List Call → ℕ → List (List ℕ)
sent_from space [] number = []
sent_from space (call ∷ calls) number = sent_by space call number ++ sent_from (step space call).space calls number

-- the messages that were sent on a link in a history, in order
abbrev pub sent : List ℕ → List Call → ℕ → List (List ℕ)
sent name history number = sent_from (empty_space name) history number

-- the message of a reply, if it has one
abbrev pub message_in : Reply → List (List ℕ)
message_in (Opened link) = []
message_in (TooManyLinks count) = []
message_in (Done ring) = []
message_in Closed = []
message_in NoLink = []
message_in (Message message) = message ∷ []
message_in Empty = []
message_in Over = []

-- the messages that a call takes from a link
abbrev pub taken_by : Space → Call → ℕ → List (List ℕ)
taken_by space NewLink number = []
taken_by space (Deliver link arrived) number = []
taken_by space (End link) number = []
taken_by space (Lost link) number = []
taken_by space (Take link) number = if link == number then message_in (step space (Take link)).reply else []

-- the messages that calls take from a link
abbrev pub taken_from : Space → List Call → ℕ → List (List ℕ)
taken_from space [] number = []
taken_from space (call ∷ calls) number = taken_by space call number ++ taken_from (step space call).space calls number

-- the messages that were taken from a link in a history, in order
abbrev pub taken : List ℕ → List Call → ℕ → List (List ℕ)
taken name history number = taken_from (empty_space name) history number

-- some call is to lose this link
abbrev pub loses : List Call → ℕ → Bool
loses [] number = false
loses (NewLink ∷ calls) number = loses calls number
loses (Deliver link arrived ∷ calls) number = loses calls number
loses (End link ∷ calls) number = loses calls number
loses (Lost link ∷ calls) number = if link == number then true else loses calls number
loses (Take link ∷ calls) number = loses calls number
