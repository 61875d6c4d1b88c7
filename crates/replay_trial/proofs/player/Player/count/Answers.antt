-- What was counted is added, and the answer is forgotten.
use Rattle.std.proofs.Common.{◌∙◌, ap}
use Rattle.replay_trial.specs.Reading.{both_replies}
use Rattle.replay_trial.proofs.player.Player.count.Goals as goal

pub returns-clause-counted : goal.returns-clause-counted
returns-clause-counted c = record {
  emptied = c.clear.ensures.empty;
  counted = λ lines is. c.in-Some.ensures ∙ ap (both_replies c.args.self.now.replies) (c.count_replies-answered.ensures lines (c.as_slice.ensures.bytes ∙ is));
}
