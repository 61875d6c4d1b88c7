-- What is read of a body is sound.
use Rattle.ssap_shape.proofs.OneTold.{told_sound}
use Rattle.ssap_shape.proofs.laws.told_is_sound.Goals as goal

pub returns : goal.returns
returns c = told_sound
