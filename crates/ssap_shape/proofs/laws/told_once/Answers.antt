-- A confirm's and an indication's parameters stand once.
use Rattle.ssap_shape.proofs.OneTold.{told_once as once}
use Rattle.ssap_shape.proofs.laws.told_once.Goals as goal

pub returns : goal.returns
returns c = once
