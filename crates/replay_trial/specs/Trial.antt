-- A trial: the generated script is replayed, and the confirms and the indications among the answers are counted.
use Rattle.std.specs.Prelude.{◌≡◌, ◌≤◌, ℕ, ◌+◌, List, [], ◌∷◌, ◌++◌, flat_map, codes, Option}
use Rattle.std.specs.Fmt.{decimal}
use Rattle.std.specs.Io.KnownBytes.{Appends}
use Rattle.sib_io.specs.Causes.{Rose, AppendsPart}
use Rattle.session_core.specs.Runs as runs
use Rattle.sib_replay.specs.Output.{Event, AreTaken, answers, history, rows, space_after, last_line}
use Rattle.sib_replay.specs.Lines.{Line, line_bytes, messages_on}
use Rattle.sib_replay.specs.Doing.{Seen}
use Rattle.sib_replay.specs.declared.ending.Ending.{Ending}
use Rattle.sib_replay.specs.declared.ending.Ending.TheVariants.{Done, BadScript, ReadFault, WriteFault, NoMemory, Spent}
use Rattle.made_script.specs.Made.{made_space, made_entries}
use Rattle.replay_trial.specs.Replies.{replies_in}
use Rattle.replay_trial.specs.declared.replies.Replies.{Replies}

-- the line of the counts
unfoldable pub counts_line : Replies → List ℕ
counts_line replies = codes "confirms " ++ decimal replies.confirms ++ codes " indications " ++ decimal replies.indications ++ 10 ∷ []

-- the answers to events are these lines, and their messages on each link are those that were sent there, in order
pub record AreAnswers (events : List Event) (lines : List Line) : Type 0 where
  pub spelled : answers made_space events ≡ flat_map line_bytes lines
  pub sent : (link : ℕ) → messages_on link lines ≡ runs.sent made_space (history made_space events) link

-- all that a trial with so many updates writes: how many confirms and indications are among the answers to the generated
-- script, and then the last line of its replay
pub record IsTrial (updates : ℕ) (output : List ℕ) : Type 0 where
  pub events : List Event
  pub lines : List Line
  pub taken : AreTaken made_space (made_entries updates) events
  pub answered : AreAnswers events lines
  pub whole : output ≡ counts_line (replies_in lines) ++ last_line (space_after made_space events)

-- the counter rose by no more than the rows that the calls of the script read
abbrev pub ReadsWithin : ℕ → ℕ → ℕ → Type 0
ReadsWithin updates old new = (events : List Event) → AreTaken made_space (made_entries updates) events → new ≤ old + rows made_space events

-- what was given is a prefix of all that the trial writes
abbrev pub GivesPart : ℕ → Option (List ℕ) → Option (List ℕ) → Type 0
GivesPart updates old new = (output : List ℕ) → IsTrial updates output → AppendsPart old new output

-- what holds at each ending: all was given, or a prefix of it, and the sink's count of faults rose exactly where the sink is
-- to blame. A trial reads no input, so it ends in no other way
abbrev pub Outcome : ℕ → Seen → Seen → Ending → Type 0
Outcome updates old new Done = (new.faults ≡ old.faults) × (output : List ℕ) × IsTrial updates output × Appends old.given new.given output
Outcome updates old new BadScript = ⊥
Outcome updates old new ReadFault = ⊥
Outcome updates old new WriteFault = Rose old.faults new.faults × GivesPart updates old.given new.given
Outcome updates old new NoMemory = (new.faults ≡ old.faults) × GivesPart updates old.given new.given
Outcome updates old new Spent = ⊥

-- a trial ended so, within the rows of the calls of its script
pub record Tried (updates : ℕ) (old new : Seen) (ending : Ending) : Type 0 where
  pub counts : ReadsWithin updates old.steps new.steps
  pub outcome : Outcome updates old new ending
