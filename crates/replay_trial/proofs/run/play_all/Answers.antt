-- Entry by entry, up to the last.
use Rattle.std.proofs.Common.{◌≡◌, ◌++◌, ◌∙◌, ap, arith}
use Rattle.made_script.specs.Made.{made_len}
use Rattle.replay_trial.proofs.PlayingOn.{within_entry, within_all, within_more}
use Rattle.replay_trial.proofs.run.play_all.Goals as goal

-- an entry could not be answered
pub returns-in_err-play-clause-counts : goal.returns-in_err-play-clause-counts
returns-in_err-play-clause-counts g c =
    let (events, p, before) = c.loop-position.invariant.played in
    let count : c.made_len-position-end.result ≡ made_len c.args.updates = c.made_len-position-end.ensures.count ∙ ap made_len c.from.ensures in
    within_entry c.loop-position.position c.args.updates c.args.steps.now c.loop-position.steps c.play.new.steps events
    (omega (arith, count, c.loop-position-test.true)) p.taken before (c.in_err-play.ensures events p)

-- one more was answered
pub loop-position-preserved : goal.loop-position-preserved
loop-position-preserved g c =
    let (events, p, before) = c.loop-position.invariant.played in
    let one = c.in_ok-play.ensures events p in
    record {
      within = omega (arith, c.loop-position-test.true);
      played = (events ++ one.first, one.played, within_more events one.first c.args.steps.now c.loop-position.steps c.play.new.steps before one.steps);
    }

-- all were
pub returns-clause-counts : goal.returns-clause-counts
returns-clause-counts g c =
    let (events, p, before) = c.loop-position.invariant.played in
    let count : c.made_len-position-end.result ≡ made_len c.args.updates = c.made_len-position-end.ensures.count ∙ ap made_len c.from.ensures in
    let all : c.loop-position.position ≡ made_len c.args.updates = omega (arith, count, c.loop-position-test.false, c.loop-position.invariant.within) in
    within_all c.loop-position.position c.args.updates c.args.steps.now c.loop-position.steps events all p.taken before
