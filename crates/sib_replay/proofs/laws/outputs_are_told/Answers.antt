-- An input is split into entries in one way, and these are taken in one way.
use Rattle.std.proofs.Common.{◌++◌, sym, ◌∙◌, ap, subst}
use Rattle.sib_script.proofs.ScriptLaws.{splits_unique}
use Rattle.sib_script.proofs.Places.{place_once}
use Rattle.sib_replay.specs.Output.{AreTaken, answers, farewell}
use Rattle.sib_replay.proofs.OutputLemmas.{told_same}
use Rattle.sib_replay.proofs.laws.outputs_are_told.Goals as goal

pub returns-clause-events : goal.returns-clause-events
returns-clause-events c name entries a b x y = sym (told_same name entries a b x y)

pub returns-clause-output : goal.returns-clause-output
returns-clause-output c name input a b x y =
    let same = splits_unique input x.0 y.0 x.1 y.1 x.4 y.4 in
    let place = place_once input x.3 y.3 x.5 y.5 in
    let events = told_same name x.0 x.2 y.2 x.6 (subst (λ es. AreTaken name es y.2) (sym same.0) y.6) in
    x.7 ∙ ap (λ vs. answers name vs ++ farewell name vs x.3 x.1) (sym events) ∙ ap (λ r. answers name y.2 ++ farewell name y.2 x.3 r) same.1
    ∙ ap (λ p. answers name y.2 ++ farewell name y.2 p y.1) place ∙ sym y.7
