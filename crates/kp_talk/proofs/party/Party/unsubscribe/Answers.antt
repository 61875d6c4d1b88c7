use Rattle.std.proofs.Common.{◌∙◌, ap, sym, refl, ℕ}
use Rattle.std.proofs.lemmas.Result.{err_from_is_err_and}
use Rattle.ssap_items.specs.declared.heads.Transaction as transaction
use Rattle.ssap_shape.specs.declared.request.Ask as ask
use Rattle.std.proofs.Common.{List, []}
use Rattle.std.specs.Fmt.{decimal}
use Rattle.kp_client.specs.Asked.{asked_bytes}
use Rattle.kp_talk.specs.Talk.{follows, leaves, awaits, request_at}
use Rattle.kp_talk.specs.declared.stage.Stage.TheVariants.{Unsubscribing}
use Rattle.kp_talk.proofs.ClientsAwait.{awaits_is}
use Rattle.kp_talk.proofs.StepsAnswer.{answers_unasked, answers_asked, says_as, fails_as}
use Rattle.kp_talk.proofs.party.Party.unsubscribe.Goals as goal

-- the request was not written
pub returns-in_err-request : goal.returns-in_err-request
returns-in_err-request g c errand r mirror is printed prints =
    let same = ap (λ (l : List ℕ). asked_bytes c.args.self.now.client transaction.TheVariants.Unsubscribe (ask.TheVariants.Unsubscribe l)) (c.in_ok-number_text.ensures ∙ ap decimal (sym is)) in
    let p = err_from_is_err_and c.from_residual-in_err-request.result c.from_residual-in_err-request.ensures.1 in
    rw (p.1, p.2)
    (answers_unasked errand c.args.self.now 3 transaction.TheVariants.Unsubscribe (ask.TheVariants.Unsubscribe (decimal mirror.subscription)) r _ _ (λ more last. refl) _ _ _ _
    (fails_as _ _ _ _ [] _ same (c.in_err-request.ensures.said printed prints)))

-- it was written
pub returns : goal.returns
returns g c errand r mirror is printed prints =
    let new = c.in_ok-request.ensures.asked in
    let same = ap (λ (l : List ℕ). asked_bytes c.args.self.now.client transaction.TheVariants.Unsubscribe (ask.TheVariants.Unsubscribe l)) (c.in_ok-number_text.ensures ∙ ap decimal (sym is)) in
    answers_asked errand c.args.self.now 3 transaction.TheVariants.Unsubscribe (ask.TheVariants.Unsubscribe (decimal mirror.subscription)) r
    (λ more last. follows last errand 0 mirror more)
    (λ more last. awaits last (request_at errand 3 transaction.TheVariants.Unsubscribe (ask.TheVariants.Unsubscribe (decimal mirror.subscription))) (λ confirm rest. leaves last errand 4 rest) more)
    (λ more last. refl) _ _ tt c.request.new.client (Unsubscribing c.args.number) new
    (λ more last. ap (λ (n : ℕ). awaits last (request_at errand 3 transaction.TheVariants.Unsubscribe (ask.TheVariants.Unsubscribe (decimal n))) (λ confirm rest. leaves last errand 4 rest) more) is)
    (awaits_is c.args.self.now.client c.request.new.client transaction.TheVariants.Unsubscribe 3 new r.made)
    (says_as _ _ _ [] _ [] same refl (c.in_ok-request.ensures.said printed prints))
