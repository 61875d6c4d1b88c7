-- A whole message spells an envelope, which is found.
use Rattle.ssap_decode.proofs.Spelled.{message_spelled}
use Rattle.ssap_decode.proofs.envelope.envelope_of.Goals as goal

pub unreachable-requires : goal.unreachable-requires
unreachable-requires c =
    let s = message_spelled c.args.bytes.now c.requires in
    let known = rw c.in-None.is at c.in_ok-envelope.ensures.none in
    known s.0 s.1
