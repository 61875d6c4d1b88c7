use Rattle.replay_trial.proofs.TrialsTold.{trials_replay}
use Rattle.replay_trial.proofs.laws.trials_replay_the_script.Goals as goal

pub returns : goal.returns
returns c = record { replayed = trials_replay }
