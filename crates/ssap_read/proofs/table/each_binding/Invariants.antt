use Rattle.std.proofs.Common.{length}
use Rattle.ssap_grammar.specs.Table.{ReadsBinding}
use Rattle.ssap_read.proofs.Each.{Sofar}
use Rattle.ssap_read.proofs.table.each_binding.Given as goal

abbrev pub invariant-each : goal.invariant-each
invariant-each l = Sofar ReadsBinding l.bytes l.bindings l.rest

abbrev pub decreases-each : goal.decreases-each
decreases-each l = length l.rest
