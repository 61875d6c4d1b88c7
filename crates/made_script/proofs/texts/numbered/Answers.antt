-- A plain letter and a number are plain.
use Rattle.std.proofs.Common.{◌∙◌, sym, subst, IsTrue}
use Rattle.ssap_shape.specs.Plain.{is_plain}
use Rattle.made_script.proofs.PlainTexts.{numbered_plain}
use Rattle.made_script.proofs.texts.numbered.Goals as goal

pub plain-requires : goal.plain-requires
plain-requires c =
    subst (λ bytes. IsTrue (is_plain bytes)) (sym (c.as_bytes.ensures.value ∙ c.in_ok-text.ensures.ok)) (numbered_plain c.args.letter.now c.args.number c.requires c.ranges.number.fits)
