use Rattle.std.proofs.Common.{length}
use Rattle.ssap_grammar.specs.Table.{ReadsVariable}
use Rattle.ssap_read.proofs.Each.{Sofar}
use Rattle.ssap_read.proofs.table.each_variable.Given as goal

abbrev pub invariant-each : goal.invariant-each
invariant-each l = Sofar ReadsVariable l.bytes l.variables l.rest

abbrev pub decreases-each : goal.decreases-each
decreases-each l = length l.rest
