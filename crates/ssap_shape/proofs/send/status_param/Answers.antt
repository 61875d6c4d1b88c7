-- A status is plain.
use Rattle.std.proofs.Common.{IsTrue, subst, sym}
use Rattle.ssap_shape.specs.Plain.{is_plain}
use Rattle.ssap_shape.proofs.Sent.{status_plain}
use Rattle.ssap_shape.proofs.send.status_param.Goals as goal

pub plain-requires : goal.plain-requires
plain-requires c = subst (λ bytes. IsTrue (is_plain bytes)) (sym c.as_bytes.ensures) (status_plain c.args.status)
