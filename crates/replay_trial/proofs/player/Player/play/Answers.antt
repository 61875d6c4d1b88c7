-- An entry is answered and its answer is counted.
use Rattle.std.proofs.Common.{sym, subst}
use Rattle.sib_replay.specs.Session.{Fits}
use Rattle.made_script.specs.Made.{made_space}
use Rattle.replay_trial.proofs.EntriesFit.{entry_fits}
use Rattle.replay_trial.proofs.PlayingOn.{plays_on, answered_at}
use Rattle.replay_trial.proofs.player.Player.play.Goals as goal

-- the entry can be answered
pub answer-requires-clause-can : goal.answer-requires-clause-can
answer-requires-clause-can g c κs within =
    let (events, p) = c.requires.ready in
    (made_space, events, p.stands, subst (Fits events) (sym c.in_ok-entry.ensures.entry) (entry_fits c.args.position events c.requires.few p.taken))

-- it was answered, and its answer was counted or could not be
pub returns : goal.returns
returns g c events p =
    plays_on c.args.position events c.args.steps.now c.answer.new.steps c.args.self.now c.answer.new.self c.count.new.self c.count.result p
    (answered_at events c.in_ok-entry.entry c.args.position c.args.steps.now c.answer.new.steps c.answer.new.self c.in_ok-entry.ensures.entry (c.in_ok-answer.ensures.answered events p.stands))
    c.in_ok-answer.ensures.replies c.count.ensures.session c.count.ensures.counted
