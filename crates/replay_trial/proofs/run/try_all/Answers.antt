-- The counts and the last line of what was played.
use Rattle.replay_trial.proofs.PlayingOn.{reported}
use Rattle.replay_trial.proofs.run.try_all.Goals as goal

pub returns-clause-output : goal.returns-clause-output
returns-clause-output g c = reported c.args.updates c.play_all.new.player c.report.result c.in_ok-play_all.ensures.played c.report.ensures
