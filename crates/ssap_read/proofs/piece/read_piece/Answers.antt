use Rattle.ssap_read.proofs.Items.{message_item, transaction_item, transaction_id_item, node_id_item, space_id_item, parameter_item, item_none}
use Rattle.ssap_read.proofs.piece.read_piece.Goals as goal

pub returns-in-Some : goal.returns-in-Some
returns-in-Some c =
    message_item c.args.bytes.now _ _ c.in-Some.ensures

pub returns-in-Some-transaction_type : goal.returns-in-Some-transaction_type
returns-in-Some-transaction_type c =
    transaction_item c.args.bytes.now _ _ c.in-Some-transaction_type.ensures

pub returns-in-Some-2 : goal.returns-in-Some-2
returns-in-Some-2 c =
    transaction_id_item c.args.bytes.now _ _ (rw c.in-Some-2.is at c.in_ok-text.ensures)

pub returns-in-Some-3 : goal.returns-in-Some-3
returns-in-Some-3 c =
    node_id_item c.args.bytes.now _ _ (rw c.in-Some-3.is at c.in_ok-text-2.ensures)

pub returns-in-Some-4 : goal.returns-in-Some-4
returns-in-Some-4 c =
    space_id_item c.args.bytes.now _ _ (rw c.in-Some-4.is at c.in_ok-text-3.ensures)

pub returns-in-Some-5 : goal.returns-in-Some-5
returns-in-Some-5 c =
    parameter_item c.args.bytes.now _ _ (rw c.in-Some-5.is at c.in_ok-param.ensures)

pub returns : goal.returns
returns c =
    item_none c.args.bytes.now c.in_default.ensures c.in_default-transaction_type.ensures (rw c.in_default-2.is at c.in_ok-text.ensures) (rw c.in_default-3.is at c.in_ok-text-2.ensures) (rw c.in_default-4.is at c.in_ok-text-3.ensures) (rw c.in_default-5.is at c.in_ok-param.ensures)
