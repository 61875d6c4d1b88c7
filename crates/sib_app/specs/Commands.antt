-- The forms of words, and the command that each names.
use Rattle.std.specs.Prelude.{◌≡◌, ℕ, ◌<◌, ◌≤◌, List, [], ◌∷◌, codes, ⊤, refl}
use Rattle.std.specs.Fmt.{decimal}
use Rattle.ssap_shape.specs.Sound.{IsSoundId}
use Rattle.stream_report.specs.declared.verdict.Report.{Report}
use Rattle.stream_report.specs.declared.verdict.Report.TheVariants.{Show, Check}
use Rattle.sib_app.specs.declared.command.Command.{Command as Named}
use Rattle.sib_app.specs.declared.command.Command.TheVariants as named

-- the first words of the forms
unfoldable pub replay_word : List ℕ
replay_word = codes "replay"

unfoldable pub show_word : List ℕ
show_word = codes "show"

unfoldable pub check_word : List ℕ
check_word = codes "check"

unfoldable pub make_word : List ℕ
make_word = codes "make"

unfoldable pub trial_word : List ℕ
trial_word = codes "trial"

-- the word for a report
abbrev pub report_word : Report → List ℕ
report_word Show = show_word
report_word Check = check_word

-- a command
pub data Command : Type 0 where
  -- replay a script in the space of this name
  Replay : (name : List ℕ) → Command
  -- report on a stream of messages
  Reports : (report : Report) → Command
  -- make the script of so many updates
  Make : (updates : ℕ) → Command
  -- make it and replay it
  Trial : (updates : ℕ) → Command

-- the words for a command
abbrev pub command_words : Command → List (List ℕ)
command_words (Replay name) = replay_word ∷ name ∷ []
command_words (Reports report) = report_word report ∷ []
command_words (Make updates) = make_word ∷ decimal updates ∷ []
command_words (Trial updates) = trial_word ∷ decimal updates ∷ []

-- a script that is made has 1 to 10,000 updates
pub record IsUpdates (updates : ℕ) : Type 0 where
  pub some : 0 < updates
  pub few : updates ≤ 10000

-- what a command names is within its limits: a space has a text of 1 to 1,024 bytes for a name
abbrev pub IsSoundCommand : Command → Type 0
IsSoundCommand (Replay name) = IsSoundId name
IsSoundCommand (Reports report) = ⊤
IsSoundCommand (Make updates) = IsUpdates updates
IsSoundCommand (Trial updates) = IsUpdates updates

-- words name a command
pub record IsCommandOf (words : List (List ℕ)) (command : Command) : Type 0 where
  pub said : words ≡ command_words command
  pub sound : IsSoundCommand command

-- words are a form: they name a command
abbrev pub IsForm : List (List ℕ) → Type 0
IsForm words = (command : Command) × IsCommandOf words command

-- a word is a number of updates in decimal, without a leading zero
pub record IsUpdatesWord (word : List ℕ) (updates : ℕ) : Type 0 where
  pub said : word ≡ decimal updates
  pub sound : IsUpdates updates

-- a command that replays or reports reads its input, and no other
abbrev pub ReadsNothing : Command → Type 0
ReadsNothing (Replay name) = ⊥
ReadsNothing (Reports report) = ⊥
ReadsNothing (Make updates) = ⊤
ReadsNothing (Trial updates) = ⊤

-- the command that the code's words for it mean
abbrev pub meant : Named → Command
meant (named.Replay name) = Replay name.now
meant (named.Report report) = Reports report
meant (named.Make updates) = Make updates
meant (named.Trial updates) = Trial updates

-- one word is enough for a check
check_alone : command_words (Reports Check) ≡ check_word ∷ []
check_alone = refl
