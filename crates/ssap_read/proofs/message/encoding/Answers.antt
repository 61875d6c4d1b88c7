use Rattle.ssap_grammar.proofs.Parameters.{encoding_lettered}
use Rattle.ssap_read.proofs.Messaging.{encoding_missing, encoding_upper, encoding_lower}
use Rattle.ssap_read.proofs.message.encoding.Goals as goal

pub returns-in_err-value : goal.returns-in_err-value
returns-in_err-value c =
    rw c.from_residual.ensures (encoding_missing c.args.bytes.now (c.in_err-value.ensures encoding_lettered))

pub returns-in-Some : goal.returns-in-Some
returns-in-Some c =
    encoding_upper c.args.bytes.now _ c.in-Some.rest (c.in_ok-value.ensures encoding_lettered) c.in-Some.ensures

pub returns-in-None : goal.returns-in-None
returns-in-None c =
    encoding_lower c.args.bytes.now _ _ (c.in_ok-value.ensures encoding_lettered) c.in-None.ensures c.quoted-in-None.ensures
