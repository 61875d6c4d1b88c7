use Rattle.std.proofs.Common.{refl, codes}
use Rattle.ssap_grammar.specs.Head.{message_types}
use Rattle.ssap_read.specs.Tags.{ReadsChosen}
use Rattle.ssap_read.proofs.Tagged.{plain_none, plain_filled, plain_closed_none}
use Rattle.ssap_read.proofs.Words.{chosen_not_empty}
use Rattle.ssap_read.proofs.head.message_type.Goals as goal

pub returns-in_err-closed : goal.returns-in_err-closed
returns-in_err-closed c =
    rw c.from_residual.ensures (plain_none (codes "message_type") (ReadsChosen message_types) c.args.bytes.now c.in_err-closed.ensures)

pub returns-then-closed : goal.returns-then-closed
unfolding message_types
returns-then-closed c =
    plain_closed_none (codes "message_type") (ReadsChosen message_types) c.args.bytes.now c.in_ok-closed.closed c.in_ok-closed.rest.now c.in_ok-closed.ensures c.if-closed.true (chosen_not_empty message_types refl)

pub returns : goal.returns
returns c =
    plain_filled (codes "message_type") (ReadsChosen message_types) c.args.bytes.now c.in_ok-closed.closed c.in_ok-closed.rest.now c.message_content.result c.finished.result
    c.in_ok-closed.ensures c.if-closed.false c.message_content.ensures c.finished.ensures
