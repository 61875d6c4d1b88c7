use Rattle.std.proofs.Common.{codes}
use Rattle.ssap_grammar.specs.Table.{ReadsResult}
use Rattle.ssap_read.specs.Tags.{ReadsEach}
use Rattle.ssap_read.proofs.Tagged.{plain_none, plain_filled, plain_closed}
use Rattle.ssap_read.proofs.Each.{no_things, only_no_things}
use Rattle.ssap_grammar.proofs.Tables.{result_opens}
use Rattle.ssap_read.proofs.table.results.Goals as goal

pub returns-in_default : goal.returns-in_default
returns-in_default c = plain_none (codes "results") (ReadsEach ReadsResult) c.args.bytes.now c.in_default.ensures

pub returns-then-closed : goal.returns-then-closed
returns-then-closed c =
    rw c.new.ensures (plain_closed (codes "results") (ReadsEach ReadsResult) c.args.bytes.now c.in-Some.closed c.in-Some.rest.now _ c.in-Some.ensures c.if-closed.true
    (no_things ReadsResult) (only_no_things ReadsResult result_opens))

pub returns : goal.returns
returns c =
    plain_filled (codes "results") (ReadsEach ReadsResult) c.args.bytes.now c.in-Some.closed c.in-Some.rest.now c.in_ok-each_result_row.field-0 c.finished.result
    c.in-Some.ensures c.if-closed.false c.in_ok-each_result_row.ensures c.finished.ensures
