use Rattle.std.proofs.Common.{◌≡◌, ◌∙◌, ap, sym, refl}
use Rattle.std.proofs.lemmas.Result.{err_from_is_err_and}
use Rattle.std.proofs.Common.{subst, List}
use Rattle.ssap_items.specs.declared.heads.Transaction.{Transaction}
use Rattle.ssap_shape.specs.declared.request.Ask.{Ask}
use Rattle.ssap_shape.specs.declared.reply.Incoming.{Incoming}
use Rattle.kp_talk.specs.Talk.{performs, awaits, writes, request_at}
use Rattle.kp_talk.specs.Stages.{Future, IsReady, ask_of, transaction_of, goal_transaction, task_next, Awaits}
use Rattle.kp_talk.specs.declared.errand.Errand.{Errand}
use Rattle.kp_talk.specs.declared.finish.Finish.{Finish}
use Rattle.kp_talk.specs.declared.party.Party.{Party}
use Rattle.kp_talk.specs.declared.stage.Stage.TheVariants.{Asking as Performing}
use Rattle.kp_talk.proofs.ClientsAwait.{awaits_is}
use Rattle.kp_talk.proofs.TasksAsk.{goal_task, performs_is}
use Rattle.kp_talk.proofs.StepsAnswer.{answers_unasked, answers_asked}
use Rattle.kp_talk.proofs.party.Party.perform.Goals as goal

module _ (errand : Errand) (party : Party) (r : IsReady errand party 2) (kind : Transaction) (is : kind ≡ goal_transaction party.goal) where
  -- the transaction is that of the task
  kind_is : kind ≡ transaction_of errand.task
  kind_is = is ∙ ap goal_transaction r.is_for.goal ∙ goal_task errand.task

  -- what is left behind the request
  abbrev rest : Future
  rest more last = awaits last (request_at errand 2 (transaction_of errand.task) (ask_of errand.task)) (task_next last errand errand.task) more

  -- the talk begins with the request
  begins : (more : List Incoming) (last : Finish) → performs last errand errand.task more ≡ writes (request_at errand 2 kind party.ask) (rest more last)
  begins more last =
      performs_is last errand errand.task more ∙ ap (λ (k : Transaction). writes (request_at errand 2 k (ask_of errand.task)) (rest more last)) (sym kind_is)
      ∙ ap (λ (a : Ask). writes (request_at errand 2 kind a) (rest more last)) (sym r.is_for.ask)

-- the request was not written
pub returns-in_err-request : goal.returns-in_err-request
returns-in_err-request g c errand r printed prints =
    let p = err_from_is_err_and c.from_residual.result c.from_residual.ensures.1 in
    rw (p.1, p.2)
    (answers_unasked errand c.args.self.now 2 c.transaction_of-transaction.result c.args.self.now.ask r _ (rest errand c.args.self.now r c.transaction_of-transaction.result c.transaction_of-transaction.ensures)
    (begins errand c.args.self.now r c.transaction_of-transaction.result c.transaction_of-transaction.ensures) _ _ _ _ (c.in_err-request.ensures.said printed prints))

-- it was written
pub returns : goal.returns
returns g c errand r printed prints =
    let new = c.in_ok-request.ensures.asked in
    answers_asked errand c.args.self.now 2 c.transaction_of-transaction.result c.args.self.now.ask r (λ more last. performs last errand errand.task more)
    (rest errand c.args.self.now r c.transaction_of-transaction.result c.transaction_of-transaction.ensures) (begins errand c.args.self.now r c.transaction_of-transaction.result c.transaction_of-transaction.ensures) _ _ tt
    c.request.new.client Performing new (λ more last. refl)
    (subst (λ (k : Transaction). Awaits c.request.new.client 2 k) (kind_is errand c.args.self.now r c.transaction_of-transaction.result c.transaction_of-transaction.ensures)
    (awaits_is c.args.self.now.client c.request.new.client c.transaction_of-transaction.result 2 new r.made)) (c.in_ok-request.ensures.said printed prints)
