-- What the parts of a trial stand for, of which its private functions speak.
use Rattle.std.specs.Prelude.{◌≡◌, ◌≤◌, ℕ, ◌+◌, List, [], ◌++◌, flat_map, map, Result, Ok, Err}
use Rattle.std.specs.List.{range_with_len}
use Rattle.sib_script.specs.declared.entry.Entry.{Entry}
use Rattle.sib_replay.specs.Output.{Event, AreTaken, IsTaken, answers_after, rows_after}
use Rattle.sib_replay.specs.Lines.{Line, line_bytes}
use Rattle.sib_replay.specs.Session.{Stands}
use Rattle.made_script.specs.Made.{made_space, entry_at}
use Rattle.m3_terms.specs.declared.memory.NoMemory.{NoMemory}
use Rattle.replay_trial.specs.Replies.{replies_in}
use Rattle.replay_trial.specs.Reading.{both_replies}
use Rattle.replay_trial.specs.Trial.{AreAnswers}
use Rattle.replay_trial.specs.declared.replies.Replies.{Replies}
use Rattle.replay_trial.specs.declared.player.Player.{Player}

-- the first entries of the script
abbrev pub first_entries : ℕ → List Entry
first_entries count = map entry_at (range_with_len 0 count)

-- the replies among the answers to events were counted
pub record IsCount (events : List Event) (replies : Replies) : Type 0 where
  pub lines : List Line
  pub answered : AreAnswers events lines
  pub counted : replies ≡ replies_in lines

-- so many entries were answered, as these events
pub record Played (count : ℕ) (events : List Event) (player : Player) : Type 0 where
  pub taken : AreTaken made_space (first_entries count) events
  pub stands : Stands made_space player.session events
  pub emptied : player.kept.bytes.items ≡ []
  pub counts : IsCount events player.replies

-- so many entries were answered
abbrev pub IsPlayed : ℕ → Player → Type 0
IsPlayed count player = (events : List Event) × Played count events player

-- an entry was taken behind some events, within the rows of its calls
pub record PlaysOne (count : ℕ) (events : List Event) (old new : ℕ) (player : Player) : Type 0 where
  pub first : List Event
  pub taken : IsTaken made_space events (entry_at count) first
  pub steps : new ≤ old + rows_after made_space events first
  pub played : Played (count + 1) (events ++ first) player

-- no more rows were read than the calls of an entry read behind some events
abbrev pub TakesWithin : List Event → Entry → ℕ → ℕ → Type 0
TakesWithin events entry old new = (first : List Event) → IsTaken made_space events entry first → new ≤ old + rows_after made_space events first

-- an entry was answered and its replies were counted, or there was no memory
abbrev pub Plays : ℕ → List Event → ℕ → ℕ → Player → Result (Unit {0}) NoMemory → Type 0
Plays count events old new player (Ok done) = PlaysOne count events old new player
Plays count events old new player (Err refused) = TakesWithin events (entry_at count) old new

-- an entry was answered into memory
pub record AnswersOne (events : List Event) (entry : Entry) (old new : ℕ) (player : Player) : Type 0 where
  pub first : List Event
  pub taken : IsTaken made_space events entry first
  pub steps : new ≤ old + rows_after made_space events first
  pub stands : Stands made_space player.session (events ++ first)
  pub kept : player.kept.bytes.items ≡ answers_after made_space events first

-- or there was no memory
abbrev pub Answered : List Event → Entry → ℕ → ℕ → Player → Result (Unit {0}) NoMemory → Type 0
Answered events entry old new player (Ok done) = AnswersOne events entry old new player
Answered events entry old new player (Err refused) = TakesWithin events entry old new

-- the replies in an answer were counted, and the answer was forgotten
pub record CountsAnswer (replies : Replies) (answer : List ℕ) (player : Player) : Type 0 where
  pub emptied : player.kept.bytes.items ≡ []
  pub counted : (lines : List Line) → answer ≡ flat_map line_bytes lines → player.replies ≡ both_replies replies (replies_in lines)
