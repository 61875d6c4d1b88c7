use Rattle.ssap_read.proofs.Messaging.{with_encoding, without_encoding}
use Rattle.ssap_read.proofs.message.skip_encoding.Goals as goal

pub returns-in-Some : goal.returns-in-Some
returns-in-Some c =
    with_encoding c.args.bytes.now _ c.in-Some.ensures

pub returns-in-None : goal.returns-in-None
returns-in-None c =
    without_encoding c.args.bytes.now c.in-None.ensures
