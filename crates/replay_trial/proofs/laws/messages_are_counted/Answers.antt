use Rattle.replay_trial.proofs.LinkSums.{messages_counted}
use Rattle.replay_trial.proofs.laws.messages_are_counted.Goals as goal

pub returns : goal.returns
returns c = record { counted = messages_counted }
