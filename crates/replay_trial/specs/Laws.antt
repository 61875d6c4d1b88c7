-- What holds of trials.
use Rattle.std.specs.Prelude.{◌≡◌, ◌↔◌, ℕ, ◌+◌, ◌<◌, ◌^◌, true, List, ◌++◌, flat_map, ⊤}
use Rattle.std.specs.List.{sum_by, range_with_len, AllByRecursion}
use Rattle.ssap_items.specs.Canon.{canonical}
use Rattle.ssap_items.specs.declared.envelope.Envelope.{Envelope}
use Rattle.ssap_items.specs.declared.heads.MessageType.TheVariants.{Confirm, Indication}
use Rattle.sib_replay.specs.Output.{IsOutput}
use Rattle.sib_replay.specs.Lines.{Line, Sends, Halts, Finds, Full, line_bytes, messages_on}
use Rattle.made_script.specs.Made.{made_space, made_script}
use Rattle.replay_trial.specs.Replies.{is_confirm, is_indication, replies_of, replies_in}
use Rattle.replay_trial.specs.Trial.{IsTrial, counts_line}

-- a trial with so many updates writes one thing
abbrev pub TrialsAreTold : Type 0
TrialsAreTold = (updates : ℕ) (a b : List ℕ) → IsTrial updates a → IsTrial updates b → a ≡ b

-- it writes something
abbrev pub TrialsExist : Type 0
TrialsExist = (updates : ℕ) → (output : List ℕ) × IsTrial updates output

-- a replay of the generated script writes these answers and this last line, whose counts and which the trial writes
pub record Replays (updates : ℕ) (output trial : List ℕ) : Type 0 where
  pub lines : List Line
  pub last : List ℕ
  pub written : output ≡ flat_map line_bytes lines ++ last
  pub told : trial ≡ counts_line (replies_in lines) ++ last

-- the trial tells of what a replay of the script with as many updates writes
abbrev pub TrialsReplayTheScript : Type 0
TrialsReplayTheScript = (updates : ℕ) (output trial : List ℕ) → updates + 52 < 2 ^ 64 → IsOutput made_space (made_script updates) output → IsTrial updates trial → Replays updates output trial

-- a message is sent on a link below this one
abbrev pub IsBelow : ℕ → Line → Type 0
IsBelow limit (Sends link message) = link < limit
IsBelow limit (Halts link why) = ⊤
IsBelow limit (Finds link) = ⊤
IsBelow limit (Full count) = ⊤

-- the counts of lines are the sums, over the links, of the counts of the messages on each
abbrev pub MessagesAreCounted : Type 0
MessagesAreCounted = (limit : ℕ) (lines : List Line) → AllByRecursion (IsBelow limit) lines
    → ((replies_in lines).confirms ≡ sum_by (λ link. (replies_of (messages_on link lines)).confirms) (range_with_len 0 limit))
    × ((replies_in lines).indications ≡ sum_by (λ link. (replies_of (messages_on link lines)).indications) (range_with_len 0 limit))

-- the first bytes of a message in its canonical spelling tell what it is
abbrev pub FrontsTellMessages : Type 0
FrontsTellMessages = (envelope : Envelope) → ((is_confirm (canonical envelope) ≡ true) ↔ (envelope.heads.message ≡ Confirm))
    × ((is_indication (canonical envelope) ≡ true) ↔ (envelope.heads.message ≡ Indication))
