use Rattle.std.proofs.Common.{length}
use Rattle.ssap_read.proofs.Messaging.{Reading}
use Rattle.ssap_read.proofs.message.content.Given as goal

abbrev pub invariant-each : goal.invariant-each
invariant-each l = Reading l.bytes l.gathered l.rest

abbrev pub decreases-each : goal.decreases-each
decreases-each l = length l.rest
