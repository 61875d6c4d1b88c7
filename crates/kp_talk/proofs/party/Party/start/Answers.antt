use Rattle.std.proofs.Common.{refl}
use Rattle.std.proofs.lemmas.Result.{err_from_is_err_and}
use Rattle.kp_talk.specs.Talk.{talk_over}
use Rattle.kp_talk.proofs.StepsAnswer.{nothing_fails}
use Rattle.kp_talk.proofs.TalksJoin.{unjoined, joined}
use Rattle.kp_talk.proofs.party.Party.start.Goals as goal

-- nothing was asked
pub returns-in_err-ask : goal.returns-in_err-ask
returns-in_err-ask g c printed prints =
    let p = err_from_is_err_and c.from_residual.result c.from_residual.ensures.1 in
    rw (p.1, p.2) (nothing_fails (λ told last. talk_over last c.args.errand told) _, (refl, refl))

-- the request to join was not written
pub returns-in_err-request : goal.returns-in_err-request
returns-in_err-request g c printed prints =
    let p = err_from_is_err_and c.from_residual-in_err-request.result c.from_residual-in_err-request.ensures.1 in
    rw (p.1, p.2) (unjoined c.args.errand c.new-client.result _ _ c.in_err-request.field-0.0 c.new-client.ensures (c.in_err-request.ensures.said printed prints))

-- it was written
pub returns : goal.returns
returns g c printed prints =
    joined c.args.errand c.new-client.result c.request.new.client c.in_ok-ask.ask c.goal_of-goal.result _ _ c.new-client.ensures c.in_ok-request.ensures.asked c.in_ok-ask.ensures c.goal_of-goal.ensures c.requires
    (c.in_ok-request.ensures.said printed prints)
