use Rattle.replay_trial.proofs.TrialsTold.{trials_exist}
use Rattle.replay_trial.proofs.laws.trials_exist.Goals as goal

pub returns : goal.returns
returns c = record { exist = trials_exist }
