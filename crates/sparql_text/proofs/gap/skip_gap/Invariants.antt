use Rattle.std.proofs.Common.{length}
use Rattle.sparql_text.specs.Lexing.{Gap}
use Rattle.sparql_text.proofs.gap.skip_gap.Given as goal

abbrev pub invariant-gap : goal.invariant-gap
invariant-gap l = Gap l.bytes l.rest

abbrev pub decreases-gap : goal.decreases-gap
decreases-gap l = length l.rest
