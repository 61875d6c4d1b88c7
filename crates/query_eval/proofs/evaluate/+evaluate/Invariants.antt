use Rattle.std.proofs.Common.{length}
use Rattle.sparql_algebra.specs.Width.{parts}
use Rattle.query_eval.proofs.evaluate.+evaluate.Given as goal

abbrev pub decreases-evaluate : goal.decreases-evaluate
decreases-evaluate g l = length (parts l.pattern.now)
