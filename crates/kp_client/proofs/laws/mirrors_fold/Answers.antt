-- Difference by difference.
use Rattle.kp_client.proofs.MirrorFolds.{mirrors_fold as law}
use Rattle.kp_client.proofs.laws.mirrors_fold.Goals as goal

pub returns : goal.returns
returns c = law
