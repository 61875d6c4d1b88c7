-- The query's text is plain.
use Rattle.std.proofs.Common.{◌∙◌, sym, subst, IsTrue, arith}
use Rattle.ssap_shape.specs.Plain.{is_plain}
use Rattle.made_script.proofs.PlainTexts.{optional_plain, optional_parts}
use Rattle.made_script.proofs.texts.optional_text.Goals as goal

pub plain-requires : goal.plain-requires
plain-requires c =
    subst (λ bytes. IsTrue (is_plain bytes)) (sym (c.as_bytes.ensures.value ∙ c.in_ok-text.ensures.ok ∙ optional_parts c.args.number)) (optional_plain c.args.number (omega (arith, c.requires)))

pub returns : goal.returns
returns c = rw (sym (c.as_bytes.ensures.value ∙ c.in_ok-text.ensures.ok ∙ optional_parts c.args.number)) c.plain.ensures
