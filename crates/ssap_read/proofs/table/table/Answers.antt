use Rattle.ssap_read.proofs.TableParts.{no_table_start, closed_no_table, table_told}
use Rattle.ssap_read.proofs.table.table.Goals as goal

pub returns-in_default : goal.returns-in_default
returns-in_default c =
    no_table_start c.args.bytes.now c.in_default.ensures

pub returns-then-closed : goal.returns-then-closed
returns-then-closed c =
    closed_no_table c.args.bytes.now _ _ c.in-Some.ensures c.if-closed.true

pub returns : goal.returns
returns c =
    table_told c.args.bytes.now _ _ c.in_ok-table_parts.field-0 c.finished.result c.in-Some.ensures c.if-closed.false c.in_ok-table_parts.ensures c.finished.ensures
