use Rattle.ssap_read.proofs.TableParts.{table_parts_only, head_missing, rows_missing}
use Rattle.ssap_read.proofs.table.table_parts.Goals as goal

pub returns-in_default : goal.returns-in_default
returns-in_default c =
    head_missing c.args.bytes.now _ c.skip_spaces.ensures.spaces c.skip_spaces.ensures.stops (rw c.in_default.is at c.in_ok-columns.ensures)

pub returns-in_default-2 : goal.returns-in_default-2
returns-in_default-2 c =
    rows_missing c.args.bytes.now _ _ _ _ c.skip_spaces.ensures.spaces c.skip_spaces.ensures.stops (rw c.in-Some.is at c.in_ok-columns.ensures) c.skip_spaces-2.ensures.spaces c.skip_spaces-2.ensures.stops (rw c.in_default-2.is at c.in_ok-rows.ensures)

pub returns : goal.returns
returns c =
    table_parts_only c.args.bytes.now _ _ _ _ _ _ _ c.skip_spaces.ensures.spaces c.skip_spaces.ensures.stops (rw c.in-Some.is at c.in_ok-columns.ensures) c.skip_spaces-2.ensures.spaces c.skip_spaces-2.ensures.stops (rw c.in-Some-2.is at c.in_ok-rows.ensures) c.skip_spaces-3.ensures.spaces c.skip_spaces-3.ensures.stops
