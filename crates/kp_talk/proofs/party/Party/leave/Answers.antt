use Rattle.std.proofs.Common.{ap, sym, refl, ℕ}
use Rattle.std.proofs.lemmas.Result.{err_from_is_err_and}
use Rattle.ssap_items.specs.declared.heads.Transaction as transaction
use Rattle.ssap_shape.specs.declared.request.Ask as ask
use Rattle.kp_talk.specs.Talk.{leaves, awaits, request_at, finished}
use Rattle.kp_talk.specs.declared.stage.Stage.TheVariants.{Leaving}
use Rattle.kp_talk.specs.declared.finish.Finish.TheVariants as finish
use Rattle.kp_talk.proofs.ClientsAwait.{made_is, awaits_last}
use Rattle.kp_talk.proofs.StepsAnswer.{answers_unasked, answers_asked}
use Rattle.kp_talk.proofs.party.Party.leave.Goals as goal

-- the request was not written
pub returns-in_err-request : goal.returns-in_err-request
returns-in_err-request g c errand number r printed prints =
    let p = err_from_is_err_and c.from_residual.result c.from_residual.ensures.1 in
    rw (p.1, p.2)
    (answers_unasked errand c.args.self.now number transaction.TheVariants.Leave ask.TheVariants.Leave r _ _ (λ more last. refl) _ _ _ _ (c.in_err-request.ensures.said printed prints))

-- it was written
pub returns : goal.returns
returns g c errand number r printed prints =
    let is = c.in_ok-request.ensures.asked in
    let made = sym (made_is c.args.self.now.client c.request.new.client transaction.TheVariants.Leave number is r.made) in
    answers_asked errand c.args.self.now number transaction.TheVariants.Leave ask.TheVariants.Leave r (λ more last. leaves last errand number more)
    (λ more last. awaits last (request_at errand number transaction.TheVariants.Leave ask.TheVariants.Leave) (λ confirm rest. finished finish.Done) more) (λ more last. refl) _ _ tt
    c.request.new.client Leaving is
    (λ more last. ap (λ (n : ℕ). awaits last (request_at errand n transaction.TheVariants.Leave ask.TheVariants.Leave) (λ confirm rest. finished finish.Done) more) made)
    (awaits_last c.args.self.now.client c.request.new.client transaction.TheVariants.Leave is) (c.in_ok-request.ensures.said printed prints)
