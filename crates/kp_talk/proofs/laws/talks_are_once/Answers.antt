use Rattle.kp_talk.proofs.TalksOnce.{one_talk}
use Rattle.kp_talk.proofs.laws.talks_are_once.Goals as goal

pub returns : goal.returns
returns c = one_talk
