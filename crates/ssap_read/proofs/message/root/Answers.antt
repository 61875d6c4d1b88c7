use Rattle.ssap_read.proofs.Messaging.{root_start_none, root_closed_none, root_told}
use Rattle.ssap_read.proofs.message.root.Goals as goal

pub returns-in_default : goal.returns-in_default
returns-in_default c =
    root_start_none c.args.bytes.now c.in_default.ensures

pub returns-then-closed : goal.returns-then-closed
returns-then-closed c =
    root_closed_none c.args.bytes.now _ _ c.in-Some.ensures c.if-closed.true

pub returns : goal.returns
returns c =
    root_told c.args.bytes.now _ _ c.in_ok-content.field-0 c.finished.result c.in-Some.ensures c.if-closed.false c.in_ok-content.ensures c.finished.ensures
