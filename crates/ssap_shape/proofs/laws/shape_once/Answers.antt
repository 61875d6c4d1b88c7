-- Each part is told once, and each is there.
use Rattle.ssap_shape.proofs.Onces.{shapes_once}
use Rattle.ssap_shape.proofs.Somes.{shapes_some}
use Rattle.ssap_shape.proofs.laws.shape_once.Goals as goal

pub returns-clause-once : goal.returns-clause-once
returns-clause-once c = shapes_once

pub returns-clause-some : goal.returns-clause-some
returns-clause-some c = shapes_some
