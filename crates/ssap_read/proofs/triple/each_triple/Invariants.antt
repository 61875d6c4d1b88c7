use Rattle.std.proofs.Common.{length}
use Rattle.ssap_grammar.specs.Triples.{ReadsTriple}
use Rattle.ssap_read.proofs.Each.{Sofar}
use Rattle.ssap_read.proofs.triple.each_triple.Given as goal

abbrev pub invariant-each : goal.invariant-each
invariant-each l = Sofar ReadsTriple l.bytes l.triples l.rest

abbrev pub decreases-each : goal.decreases-each
decreases-each l = length l.rest
