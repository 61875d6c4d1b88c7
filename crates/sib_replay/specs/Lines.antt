-- The output as lines, and the messages among them.
use Rattle.std.specs.Prelude.{◌≡◌, ℕ, ◌==◌, if◌then◌else◌, List, [], ◌∷◌, flat_map, codes, refl}
use Rattle.session_core.specs.Runs.{sent}
use Rattle.sib_replay.specs.Output.{Event, message_lines, stop_line, closed_line, full_line, answers, history}
use Rattle.sib_replay.specs.declared.why.Why.{Why}

-- a line that answers a call or an entry
pub data Line : Type 0 where
  -- a message on a link, behind its header
  Sends : (link : ℕ) (message : List ℕ) → Line
  -- a link stops
  Halts : (link : ℕ) (why : Why) → Line
  -- an entry is of this link, which isn't open
  Finds : (link : ℕ) → Line
  -- no link opens beside so many
  Full : (count : ℕ) → Line

-- the bytes of a line
abbrev pub line_bytes : Line → List ℕ
line_bytes (Sends link message) = message_lines link message
line_bytes (Halts link why) = stop_line link why
line_bytes (Finds link) = closed_line link
line_bytes (Full count) = full_line count

-- the message that a line has on this link, if it has one
abbrev pub message_on : ℕ → Line → List (List ℕ)
message_on link (Sends other message) = if other == link then message ∷ [] else []
message_on link (Halts other why) = []
message_on link (Finds other) = []
message_on link (Full count) = []

-- the messages that lines have on a link, in order
abbrev pub messages_on : ℕ → List Line → List (List ℕ)
messages_on link lines = flat_map (message_on link) lines

-- the answers to events are lines, and their messages on each link are those that the history of the events sent there, in
-- order
abbrev pub MessagesAreSent : Type 0
MessagesAreSent = (name : List ℕ) (events : List Event) → (lines : List Line) × (answers name events ≡ flat_map line_bytes lines)
    × ((link : ℕ) → messages_on link lines ≡ sent name (history name events) link)

-- of two links the first has two messages
example_messages : messages_on 1 (Sends 1 (codes "a") ∷ Sends 2 (codes "b") ∷ Finds 1 ∷ Sends 1 (codes "c") ∷ []) ≡ codes "a" ∷ codes "c" ∷ []
example_messages = refl
