use Rattle.kp_talk.proofs.TalksStay.{same_talk}
use Rattle.kp_talk.proofs.laws.talks_stay.Goals as goal

pub returns : goal.returns
returns c = same_talk
