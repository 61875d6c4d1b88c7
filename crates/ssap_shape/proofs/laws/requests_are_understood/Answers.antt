-- No rank refuses the parameters, and they spell what is asked for.
use Rattle.ssap_shape.proofs.AskedUnderstood.{requests_understood}
use Rattle.ssap_shape.proofs.laws.requests_are_understood.Goals as goal

pub returns : goal.returns
returns c = requests_understood
