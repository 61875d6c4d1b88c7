use Rattle.std.proofs.Common.{◌≡◌, ◌++◌, length}
use Rattle.sparql_text.specs.Values.{unescaped}
use Rattle.sparql_read.proofs.strings.unescaped.Given as goal

abbrev pub invariant-pieces : goal.invariant-pieces
invariant-pieces l = l.value.items ++ unescaped l.rest ≡ unescaped l.raw

abbrev pub decreases-pieces : goal.decreases-pieces
decreases-pieces l = length l.rest
