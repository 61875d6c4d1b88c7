use Rattle.std.proofs.Common.{◌∙◌, sym}
use Rattle.std.proofs.lemmas.Result.{err_from_is_err_and}
use Rattle.kp_talk.specs.Talk.{Inserted, leaves, answered, subscribed}
use Rattle.kp_talk.proofs.TasksAsk.{next_insert, next_query, next_watch}
use Rattle.kp_talk.proofs.StepsAnswer.{answers_unprinted, answers_printed, answers_same}
use Rattle.kp_talk.proofs.party.Party.finish_task.Goals as goal

-- the line was not printed whole
pub returns-in_err-print_inserted-in-Insert : goal.returns-in_err-print_inserted-in-Insert
returns-in_err-print_inserted-in-Insert g c errand r =
    let p = err_from_is_err_and c.from_residual.result c.from_residual.ensures.1 in
    rw (p.1, p.2)
    (answers_unprinted errand _ (λ more last. leaves last errand 3 more) Inserted (λ more last. next_insert last errand errand.task c.args.confirm more (sym r.is_for.goal ∙ c.in-Insert.is)) _ _ _ _
    (c.in_err-print_inserted-in-Insert.ensures _ _))

-- it was printed, and the party leaves
pub returns-in_ok-print_inserted-in-Insert : goal.returns-in_ok-print_inserted-in-Insert
returns-in_ok-print_inserted-in-Insert g c errand r =
    answers_printed errand _ (λ more last. leaves last errand 3 more) Inserted (λ more last. next_insert last errand errand.task c.args.confirm more (sym r.is_for.goal ∙ c.in-Insert.is)) _ _ _ _ _
    (c.in_ok-print_inserted-in-Insert.ensures _ _) (c.leave.ensures errand 3 r _ _)

-- a query was answered
pub returns-in-Query : goal.returns-in-Query
returns-in-Query g c errand r =
    answers_same errand _ (λ more last. answered last errand c.args.confirm.answer more) _ _ _ _ (λ more last. next_query last errand errand.task c.args.confirm more (sym r.is_for.goal ∙ c.in-Query.is))
    (c.answer.ensures errand r)

-- a subscription began
pub returns-in-Watch : goal.returns-in-Watch
returns-in-Watch g c errand r =
    answers_same errand _ (λ more last. subscribed last errand c.in-Watch.count c.args.confirm.subscription c.args.confirm.answer more) _ _ _ _
    (λ more last. next_watch last errand errand.task c.in-Watch.count c.args.confirm more (sym r.is_for.goal ∙ c.in-Watch.is)) (c.watch.ensures errand r)
