use Rattle.ssap_read.proofs.Blank.{blank_closed, blank_open}
use Rattle.ssap_read.proofs.element.spaces_in.Goals as goal

pub returns-then-closed : goal.returns-then-closed
returns-then-closed c = blank_closed c.args.name.now c.args.closed c.args.bytes.now c.if-closed.true

pub returns : goal.returns
returns c =
    blank_open c.args.name.now c.args.closed c.args.bytes.now c.skip_spaces.result.now c.finish.result c.if-closed.false
    c.skip_spaces.ensures.spaces c.skip_spaces.ensures.stops c.finish.ensures
