-- The words are plain.
use Rattle.std.proofs.Common.{IsTrue, subst, sym}
use Rattle.ssap_shape.specs.Plain.{is_plain}
use Rattle.ssap_shape.proofs.AskedWords.{asked_plain}
use Rattle.ssap_shape.proofs.asking.word_text.Goals as goal

pub plain-requires : goal.plain-requires
plain-requires c = subst (λ bytes. IsTrue (is_plain bytes)) (sym c.as_bytes.ensures) (asked_plain c.args.word)
