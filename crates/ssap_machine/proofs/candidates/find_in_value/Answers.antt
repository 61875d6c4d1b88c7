-- The quote alone, or all.
use Rattle.std.proofs.Common.{[], ◌∷◌, refl, subst}
use Rattle.ssap_machine.specs.Words.{Word}
use Rattle.ssap_machine.specs.Choosing.{pushed, Tells}
use Rattle.ssap_machine.proofs.Choosing.{told, value_finish}
use Rattle.ssap_machine.proofs.candidates.find_in_value.Goals as goal

pub returns-in-Whole : goal.returns-in-Whole
unfolding pushed
returns-in-Whole c =
    let alone = told {choices = (Word c.quote_word.result.now, []) ∷ []} c.find.ensures refl in
    value_finish c.args.single c.args.bytes.now c.quote_word.result.now c.in-Whole.count c.in-Whole.pushes c.quote_word.ensures
    (subst (Tells ((Word c.quote_word.result.now, []) ∷ []) c.args.bytes.now) c.in-Whole.is alone)
