-- The bytes are cut at the first place of the byte.
use Rattle.replay_trial.proofs.Cuts.{cut_there, cut_somewhere}
use Rattle.replay_trial.proofs.replies.cut.Goals as goal

pub returns-in-Some-clause-apart : goal.returns-in-Some-clause-apart
returns-in-Some-clause-apart c front rest is lacks =
    cut_there c.args.byte c.args.bytes.now front rest c.in-Some.at is lacks c.in-Some.ensures.0 c.in-Some.ensures.1

pub returns-in-None-clause-apart : goal.returns-in-None-clause-apart
returns-in-None-clause-apart c front rest is lacks = absurd (cut_somewhere c.args.byte c.args.bytes.now front rest is c.in-None.ensures)
