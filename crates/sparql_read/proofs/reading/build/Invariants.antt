use Rattle.std.proofs.Common.{length}
use Rattle.sparql_read.specs.Scoped.{scope_in}
use Rattle.sparql_read.specs.Drafted.{AreDrafted}
use Rattle.sparql_read.proofs.reading.build.Given as goal

abbrev pub invariant-tokens : goal.invariant-tokens
invariant-tokens l = AreDrafted l.text l.left (scope_in l.names) l.draft

abbrev pub decreases-tokens : goal.decreases-tokens
decreases-tokens l = length l.left
