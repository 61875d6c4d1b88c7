-- Two of the four columns are equal.
use Rattle.kp_client.proofs.MirrorFolds.{forms_differ as law}
use Rattle.kp_client.proofs.laws.forms_differ.Goals as goal

pub returns : goal.returns
returns c = law
