-- Confirms and indications, and how many of them lines have.
use Rattle.std.specs.Prelude.{ℕ, Bool, nat_eq, List, [], ◌∷◌, flat_map, codes}
use Rattle.std.specs.List.{starts_with, count_by}
use Rattle.sib_replay.specs.Lines.{Line, Sends, Halts, Finds, Full}
use Rattle.replay_trial.specs.declared.replies.Replies.{Replies}

-- the bytes with which a confirm begins in its canonical spelling
unfoldable pub confirm_front : List ℕ
confirm_front = codes "<SSAP_message><message_type>CONFIRM"

-- the bytes with which an indication begins in its canonical spelling
unfoldable pub indication_front : List ℕ
indication_front = codes "<SSAP_message><message_type>INDICATION"

-- a message begins as a confirm does
abbrev pub is_confirm : List ℕ → Bool
is_confirm message = starts_with nat_eq message confirm_front

-- a message begins as an indication does
abbrev pub is_indication : List ℕ → Bool
is_indication message = starts_with nat_eq message indication_front

-- how many confirms and how many indications are among messages
abbrev pub replies_of : List (List ℕ) → Replies
replies_of messages = record { confirms = count_by is_confirm messages; indications = count_by is_indication messages }

-- the message of a line, if it has one
abbrev pub message_in : Line → List (List ℕ)
message_in (Sends link message) = message ∷ []
message_in (Halts link why) = []
message_in (Finds link) = []
message_in (Full count) = []

-- how many confirms and how many indications lines have
abbrev pub replies_in : List Line → Replies
replies_in lines = replies_of (flat_map message_in lines)
