-- What words name, by how many there are and by the first of them.
use Rattle.std.proofs.Common.{◌≡◌, ◌≢◌, ◌∙◌, ap, sym, refl, subst, arith, ℕ, List, [], ◌∷◌, length}
use Rattle.std.specs.Fmt.{decimal}
use Rattle.std.proofs.lemmas.Fmt.{decimal_injective}
use Rattle.ssap_shape.specs.Sound.{IsSoundId}
use Rattle.kp_talk.specs.Words.{IsCount}
use Rattle.stream_report.specs.declared.verdict.Report.{Report}
use Rattle.stream_report.specs.declared.verdict.Report.TheVariants.{Show, Check}
use Rattle.sib_app.specs.Commands.{Command, Replay, Reports, Make, Trial, replay_word, show_word, check_word, make_word, trial_word, report_word, command_words, IsUpdates, IsSoundCommand, IsCommandOf, IsForm, IsUpdatesWord}

-- the name in the words of a replay is sound
pub replay_needs : (name : List ℕ) → IsForm (replay_word ∷ name ∷ []) → IsSoundId name
unfolding replay_word make_word trial_word
replay_needs name (command, is) = by_command command is.said is.sound
  where
    by_command : (command : Command) → replay_word ∷ name ∷ [] ≡ command_words command → IsSoundCommand command → IsSoundId name
    by_command (Replay other) said sound =
        let same : other ≡ name = cc in
        subst IsSoundId same sound
    by_command (Reports report) said sound = absurd (omega (arith, ap length said))
    by_command (Make updates) said sound =
        let word : replay_word ≡ make_word = cc in
        absurd (omega (arith, ap length word))
    by_command (Trial updates) said sound =
        let word : replay_word ≡ trial_word = cc in
        absurd (omega (arith, ap length word))

-- the number in the words of a make is one of updates
pub make_needs : (word : List ℕ) → IsForm (make_word ∷ word ∷ []) → (updates : ℕ) × IsUpdatesWord word updates
unfolding replay_word make_word trial_word
make_needs word (command, is) = by_command command is.said is.sound
  where
    by_command : (command : Command) → make_word ∷ word ∷ [] ≡ command_words command → IsSoundCommand command → (updates : ℕ) × IsUpdatesWord word updates
    by_command (Replay name) said sound =
        let first : make_word ≡ replay_word = cc in
        absurd (omega (arith, ap length first))
    by_command (Reports report) said sound = absurd (omega (arith, ap length said))
    by_command (Make updates) said sound =
        let same : word ≡ decimal updates = cc in
        (updates, record { said = same; sound = sound })
    by_command (Trial updates) said sound =
        let first : make_word ≡ trial_word = cc in
        absurd (omega (arith, ap length first))

-- and so is that in the words of a trial
pub trial_needs : (word : List ℕ) → IsForm (trial_word ∷ word ∷ []) → (updates : ℕ) × IsUpdatesWord word updates
unfolding replay_word make_word trial_word
trial_needs word (command, is) = by_command command is.said is.sound
  where
    by_command : (command : Command) → trial_word ∷ word ∷ [] ≡ command_words command → IsSoundCommand command → (updates : ℕ) × IsUpdatesWord word updates
    by_command (Replay name) said sound =
        let first : trial_word ≡ replay_word = cc in
        absurd (omega (arith, ap length first))
    by_command (Reports report) said sound = absurd (omega (arith, ap length said))
    by_command (Make updates) said sound =
        let first : trial_word ≡ make_word = cc in
        absurd (omega (arith, ap length first))
    by_command (Trial updates) said sound =
        let same : word ≡ decimal updates = cc in
        (updates, record { said = same; sound = sound })

-- two words that begin otherwise are no form
pub other_needs : (word argument : List ℕ) → word ≢ replay_word → word ≢ make_word → word ≢ trial_word → ¬ (IsForm (word ∷ argument ∷ []))
other_needs word argument replays makes tries (command, is) = by_command command is.said
  where
    by_command : (command : Command) → word ∷ argument ∷ [] ≡ command_words command → ⊥
    by_command (Replay name) said = replays (cc)
    by_command (Reports report) said = absurd (omega (arith, ap length said))
    by_command (Make updates) said = makes (cc)
    by_command (Trial updates) said = tries (cc)

-- one word that is none of a report is no form
pub one_needs : (word : List ℕ) → ((report : Report) → word ≢ report_word report) → ¬ (IsForm (word ∷ []))
one_needs word none (command, is) = by_command command is.said
  where
    by_command : (command : Command) → word ∷ [] ≡ command_words command → ⊥
    by_command (Replay name) said = absurd (omega (arith, ap length said))
    by_command (Reports report) said = none report (cc)
    by_command (Make updates) said = absurd (omega (arith, ap length said))
    by_command (Trial updates) said = absurd (omega (arith, ap length said))

-- a form has one word or two
pub form_length : (words : List (List ℕ)) → length words ≢ 1 → length words ≢ 2 → ¬ (IsForm words)
form_length words one two (command, is) = by_command command is.said
  where
    by_command : (command : Command) → words ≡ command_words command → ⊥
    by_command (Replay name) said = two (ap length said)
    by_command (Reports report) said = one (ap length said)
    by_command (Make updates) said = two (ap length said)
    by_command (Trial updates) said = two (ap length said)

-- a word names one report
report_once : (a b : Report) → report_word a ≡ report_word b → a ≡ b
unfolding show_word check_word
report_once Show Show e = refl
report_once Show Check e = absurd (omega (arith, ap length e))
report_once Check Show e = absurd (omega (arith, ap length e))
report_once Check Check e = refl

-- a number of updates has one word
updates_once : (m n : ℕ) → IsUpdates m → IsUpdates n → decimal m ≡ decimal n → m ≡ n
updates_once m n a b e = decimal_injective m n (omega (arith, a.few)) (omega (arith, b.few)) e

-- the count that a word is in decimal is the number of updates that it is
pub count_is_updates : (word : List ℕ) (count updates : ℕ) → IsCount word count → IsUpdatesWord word updates → count ≡ updates
count_is_updates word count updates counted is =
    decimal_injective count updates (omega (arith, counted.small)) (omega (arith, is.sound.few)) (sym counted.said ∙ is.said)

-- words name at most one command
same_command : (a b : Command) → command_words a ≡ command_words b → IsSoundCommand a → IsSoundCommand b → a ≡ b
unfolding replay_word show_word check_word make_word trial_word
same_command (Replay m) (Replay n) e a b =
    let same : m ≡ n = cc in
    ap Replay same
same_command (Replay m) (Reports r) e a b = absurd (omega (arith, ap length e))
same_command (Replay m) (Make n) e a b =
    let first : replay_word ≡ make_word = cc in
    absurd (omega (arith, ap length first))
same_command (Replay m) (Trial n) e a b =
    let first : replay_word ≡ trial_word = cc in
    absurd (omega (arith, ap length first))
same_command (Reports q) (Replay n) e a b = absurd (omega (arith, ap length e))
same_command (Reports q) (Reports r) e a b =
    let word : report_word q ≡ report_word r = cc in
    ap Reports (report_once q r word)
same_command (Reports q) (Make n) e a b = absurd (omega (arith, ap length e))
same_command (Reports q) (Trial n) e a b = absurd (omega (arith, ap length e))
same_command (Make m) (Replay n) e a b =
    let first : make_word ≡ replay_word = cc in
    absurd (omega (arith, ap length first))
same_command (Make m) (Reports r) e a b = absurd (omega (arith, ap length e))
same_command (Make m) (Make n) e a b =
    let word : decimal m ≡ decimal n = cc in
    ap Make (updates_once m n a b word)
same_command (Make m) (Trial n) e a b =
    let first : make_word ≡ trial_word = cc in
    absurd (omega (arith, ap length first))
same_command (Trial m) (Replay n) e a b =
    let first : trial_word ≡ replay_word = cc in
    absurd (omega (arith, ap length first))
same_command (Trial m) (Reports r) e a b = absurd (omega (arith, ap length e))
same_command (Trial m) (Make n) e a b =
    let first : trial_word ≡ make_word = cc in
    absurd (omega (arith, ap length first))
same_command (Trial m) (Trial n) e a b =
    let word : decimal m ≡ decimal n = cc in
    ap Trial (updates_once m n a b word)

pub commands_once : (words : List (List ℕ)) (a b : Command) → IsCommandOf words a → IsCommandOf words b → a ≡ b
commands_once words a b is of = same_command a b (sym is.said ∙ of.said) is.sound of.sound
