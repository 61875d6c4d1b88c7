-- A name is plain.
use Rattle.std.proofs.Common.{IsTrue, subst, sym}
use Rattle.ssap_shape.specs.Plain.{is_plain}
use Rattle.ssap_shape.proofs.Sent.{word_plain}
use Rattle.ssap_shape.proofs.send.param.Goals as goal

pub plain-requires : goal.plain-requires
plain-requires c = subst (λ bytes. IsTrue (is_plain bytes)) (sym c.as_bytes.ensures) (word_plain c.args.name)
