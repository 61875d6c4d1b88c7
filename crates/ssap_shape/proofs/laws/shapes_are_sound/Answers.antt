-- What bytes spell is sayable, and what no rank refuses is within the limits.
use Rattle.ssap_shape.proofs.SoundShapes.{shapes_sound}
use Rattle.ssap_shape.proofs.laws.shapes_are_sound.Goals as goal

pub returns : goal.returns
returns c = shapes_sound
