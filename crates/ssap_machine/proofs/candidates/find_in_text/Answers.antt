-- The finishing tag alone, or all.
use Rattle.std.proofs.Common.{[], ◌∷◌, refl, subst}
use Rattle.ssap_machine.specs.Words.{Word}
use Rattle.ssap_machine.specs.declared.symbol.Words.TheVariants as word
use Rattle.ssap_machine.specs.declared.symbol.Symbol.TheVariants.{Next}
use Rattle.ssap_machine.specs.Choosing.{pushed, Tells}
use Rattle.ssap_machine.proofs.Choosing.{told, text_finish}
use Rattle.ssap_machine.proofs.candidates.find_in_text.Goals as goal

pub returns-in-Whole : goal.returns-in-Whole
unfolding pushed
returns-in-Whole c =
    let alone = told {choices = (Word c.finish_tag.result.now, Next word.Greater ∷ []) ∷ []} c.find.ensures refl in
    text_finish c.args.name c.args.bytes.now c.finish_tag.result.now c.in-Whole.count c.in-Whole.pushes c.finish_tag.ensures
    (subst (Tells ((Word c.finish_tag.result.now, Next word.Greater ∷ []) ∷ []) c.args.bytes.now) c.in-Whole.is alone)
