-- What has a cause is spelled by nothing.
use Rattle.answer_bodies.proofs.Causes.{causes_refuse}
use Rattle.answer_bodies.proofs.laws.causes_refuse.Goals as goal

pub returns : goal.returns
returns c = causes_refuse
