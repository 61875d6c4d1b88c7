use Rattle.ssap_read.proofs.ParameterParts.{closed_body, filled_body}
use Rattle.ssap_read.proofs.parameter.body_in.Goals as goal

pub returns-then-closed : goal.returns-then-closed
returns-then-closed c =
    closed_body c.args.closed c.args.bytes.now _ c.if-closed.true c.in_ok-no_text.ensures

pub returns : goal.returns
returns c =
    filled_body c.args.closed c.args.bytes.now c.in_ok-body.field-0 c.finished.result c.if-closed.false c.in_ok-body.ensures c.finished.ensures
