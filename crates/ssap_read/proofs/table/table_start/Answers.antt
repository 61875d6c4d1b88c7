use Rattle.ssap_read.proofs.TableParts.{table_start_none, start_with, start_without}
use Rattle.ssap_read.proofs.table.table_start.Goals as goal

pub returns-in_err-rest : goal.returns-in_err-rest
returns-in_err-rest c =
    rw c.from_residual.ensures (table_start_none c.args.bytes.now c.in_err-rest.ensures)

pub returns-in-Some : goal.returns-in-Some
returns-in-Some c =
    start_with c.args.bytes.now _ _ _ c.in_ok-rest.ensures.reads c.in-Some.ensures c.end_of_tag.ensures

pub returns-in-None : goal.returns-in-None
returns-in-None c =
    start_without c.args.bytes.now _ _ c.in_ok-rest.ensures.reads c.in-None.ensures c.end_of_tag-in-None.ensures
