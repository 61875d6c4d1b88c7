use Rattle.replay_trial.proofs.TrialsTold.{trials_told}
use Rattle.replay_trial.proofs.laws.trials_are_told.Goals as goal

pub returns : goal.returns
returns c = record { told = trials_told }
