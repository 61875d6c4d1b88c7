use Rattle.std.proofs.Common.{◌∙◌, ap, sym, arith, Err}
use Rattle.std.proofs.lemmas.Result.{err_from_is_err_and}
use Rattle.sib_replay.proofs.CallLemmas.{reply_rises}
use Rattle.sib_replay.proofs.DoingLemmas.{acts_nothing}
use Rattle.sib_replay.proofs.acting.act.Goals as goal

-- the links of a reply rise
pub write_ring-requires-clause-rising : goal.write_ring-requires-clause-rising
write_ring-requires-clause-rising g c κs within = reply_rises c.args.core.now.space c.args.call c.in-Done.ring (sym c.in_ok-ring.ensures.reply ∙ c.in-Done.is)

-- there was no memory for the call
pub returns-in_err-ring-clause-acts : goal.returns-in_err-ring-clause-acts
returns-in_err-ring-clause-acts g c =
    let p = err_from_is_err_and c.from_residual.result c.from_residual.ensures.1 in
    acts_nothing _ _ c.from_residual.result _ _ (p.1 ∙ ap Err p.2) (omega (arith, c.in_err-ring.ensures.cost))
