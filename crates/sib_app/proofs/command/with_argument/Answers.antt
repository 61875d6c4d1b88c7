use Rattle.std.proofs.Common.{◌≡◌, ℕ, List, [], ◌∷◌, MatchOption, codes, rules, subst}
use Rattle.sib_app.specs.Commands.{replay_word, make_word, trial_word, meant, IsCommandOf, IsForm}
use Rattle.sib_app.proofs.CommandsSaid.{other_needs}
use Rattle.sib_app.proofs.command.with_argument.Goals as goal

pub returns-then-eq : goal.returns-then-eq
unfolding replay_word
returns-then-eq c =
    let word : codes "replay" ≡ c.args.word.now = search rules in
    subst (λ (w : List ℕ). MatchOption c.replay_in.result (¬ (IsForm (w ∷ c.args.argument.now ∷ []))) (λ command. IsCommandOf (w ∷ c.args.argument.now ∷ []) (meant command))) word
    (subst (λ (a : List ℕ). MatchOption c.replay_in.result (¬ (IsForm (replay_word ∷ a ∷ []))) (λ command. IsCommandOf (replay_word ∷ a ∷ []) (meant command))) c.as_bytes.ensures.value
    c.replay_in.ensures)

pub returns-then-eq-2 : goal.returns-then-eq-2
unfolding make_word
returns-then-eq-2 c =
    let word : codes "make" ≡ c.args.word.now = search rules in
    subst (λ (w : List ℕ). MatchOption c.make_of.result (¬ (IsForm (w ∷ c.args.argument.now ∷ []))) (λ command. IsCommandOf (w ∷ c.args.argument.now ∷ []) (meant command))) word
    c.make_of.ensures

pub returns-then-eq-3 : goal.returns-then-eq-3
unfolding trial_word
returns-then-eq-3 c =
    let word : codes "trial" ≡ c.args.word.now = search rules in
    subst (λ (w : List ℕ). MatchOption c.trial_of.result (¬ (IsForm (w ∷ c.args.argument.now ∷ []))) (λ command. IsCommandOf (w ∷ c.args.argument.now ∷ []) (meant command))) word
    c.trial_of.ensures

-- other words name none
pub returns-else-eq-3 : goal.returns-else-eq-3
unfolding replay_word make_word trial_word
returns-else-eq-3 c =
    let replays : ¬ (c.args.word.now ≡ codes "replay") = search rules in
    let makes : ¬ (c.args.word.now ≡ codes "make") = search rules in
    let tries : ¬ (c.args.word.now ≡ codes "trial") = search rules in
    other_needs c.args.word.now c.args.argument.now replays makes tries
