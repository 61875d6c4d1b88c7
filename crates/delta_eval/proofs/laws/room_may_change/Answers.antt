use Rattle.delta_eval.proofs.StandingLaws.{keeps_standing, steps_outlast}
use Rattle.delta_eval.proofs.laws.room_may_change.Goals as goal

pub returns : goal.returns
returns c = record { standing = keeps_standing; steps = steps_outlast }
