-- What the reading of written lines gives.
use Rattle.std.specs.Prelude.{◌≢◌, ℕ, ◌+◌, if◌then◌else◌, List, [], ◌∷◌, ◌++◌, codes}
use Rattle.std.specs.Fmt.{decimal}
use Rattle.std.specs.List.{AllByRecursion}
use Rattle.replay_trial.specs.declared.replies.Replies.{Replies}
use Rattle.sib_replay.specs.Lines.{Line, Sends, Halts, Finds, Full}
use Rattle.replay_trial.specs.Replies.{is_confirm, is_indication}

-- none of the bytes is this one
abbrev pub Lacks : ℕ → List ℕ → Type 0
Lacks byte bytes = AllByRecursion (λ other. other ≢ byte) bytes

-- a header without its line end
abbrev pub header_front : ℕ → ℕ → List ℕ
header_front link size = codes "<" ++ decimal link ++ 32 ∷ decimal size

-- the message of a line, or nothing
abbrev pub message_of : Line → List ℕ
message_of (Sends link message) = message
message_of (Halts link why) = []
message_of (Finds link) = []
message_of (Full count) = []

-- with one message more
abbrev pub with_message : Replies → List ℕ → Replies
with_message replies message = record {
  confirms = replies.confirms + (if is_confirm message then 1 else 0);
  indications = replies.indications + (if is_indication message then 1 else 0);
}

-- some replies and others
abbrev pub both_replies : Replies → Replies → Replies
both_replies a b = record { confirms = a.confirms + b.confirms; indications = a.indications + b.indications }
