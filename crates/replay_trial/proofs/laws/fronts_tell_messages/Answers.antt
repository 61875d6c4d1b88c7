use Rattle.replay_trial.proofs.Fronts.{fronts_tell}
use Rattle.replay_trial.proofs.laws.fronts_tell_messages.Goals as goal

pub returns : goal.returns
returns c = record { fronts = fronts_tell }
