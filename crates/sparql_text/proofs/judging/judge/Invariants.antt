use Rattle.std.proofs.Common.{length}
use Rattle.sparql_text.specs.Judging.{AreJudged}
use Rattle.sparql_text.proofs.judging.judge.Given as goal

abbrev pub invariant-tokens : goal.invariant-tokens
invariant-tokens l = AreJudged l.text l.left l.stack l.past

abbrev pub decreases-tokens : goal.decreases-tokens
decreases-tokens l = length l.left
