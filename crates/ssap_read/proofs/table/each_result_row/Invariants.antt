use Rattle.std.proofs.Common.{length}
use Rattle.ssap_grammar.specs.Table.{ReadsResult}
use Rattle.ssap_read.proofs.Each.{Sofar}
use Rattle.ssap_read.proofs.table.each_result_row.Given as goal

abbrev pub invariant-each : goal.invariant-each
invariant-each l = Sofar ReadsResult l.bytes l.result_rows l.rest

abbrev pub decreases-each : goal.decreases-each
decreases-each l = length l.rest
