use Rattle.std.proofs.Common.{codes}
use Rattle.ssap_read.specs.Attributes.{ReadsParts}
use Rattle.ssap_read.proofs.Tagged.{plain_none, plain_filled, plain_closed_none}
use Rattle.ssap_read.proofs.TripleParts.{parts_not_empty}
use Rattle.ssap_read.proofs.triple.triple.Goals as goal

pub returns-in_default : goal.returns-in_default
returns-in_default c = plain_none (codes "triple") ReadsParts c.args.bytes.now c.in_default.ensures

pub returns-then-closed : goal.returns-then-closed
returns-then-closed c =
    plain_closed_none (codes "triple") ReadsParts c.args.bytes.now c.in-Some.closed c.in-Some.rest.now c.in-Some.ensures c.if-closed.true parts_not_empty

pub returns : goal.returns
returns c =
    plain_filled (codes "triple") ReadsParts c.args.bytes.now c.in-Some.closed c.in-Some.rest.now c.in_ok-triple_parts.field-0 c.finished.result
    c.in-Some.ensures c.if-closed.false c.in_ok-triple_parts.ensures c.finished.ensures
