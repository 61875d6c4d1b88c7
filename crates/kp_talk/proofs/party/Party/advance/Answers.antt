use Rattle.std.proofs.Common.{ap, []}
use Rattle.kp_talk.specs.Talk.{performs, leaves}
use Rattle.kp_talk.specs.Stages.{next_at, task_next}
use Rattle.kp_talk.specs.declared.stage.Stage.{Stage}
use Rattle.kp_talk.proofs.PartiesAdvance.{ready_joined, ready_performed, ready_unsubscribed}
use Rattle.kp_talk.proofs.StepsAnswer.{answers_same, says_nothing}
use Rattle.kp_talk.proofs.party.Party.advance.Goals as goal

-- it joined
pub returns-in-Joining : goal.returns-in-Joining
returns-in-Joining g c errand p =
    answers_same errand _ (λ more last. performs last errand errand.task more) _ _ _ _ (λ more last. ap (λ (s : Stage). next_at errand s c.args.confirm more last) c.in-Joining.is)
    (c.perform.ensures errand (ready_joined errand c.args.self.now p c.in-Joining.is) _ _)

-- its task was confirmed
pub returns-in-Asking : goal.returns-in-Asking
returns-in-Asking g c errand p =
    answers_same errand _ (λ more last. task_next last errand errand.task c.args.confirm more) _ _ _ _ (λ more last. ap (λ (s : Stage). next_at errand s c.args.confirm more last) c.in-Asking.is)
    (c.finish_task.ensures errand (ready_performed errand c.args.self.now p c.in-Asking.is))

-- its subscription ended
pub returns-in-Unsubscribing : goal.returns-in-Unsubscribing
returns-in-Unsubscribing g c errand p =
    answers_same errand _ (λ more last. leaves last errand 4 more) _ _ _ _ (λ more last. ap (λ (s : Stage). next_at errand s c.args.confirm more last) c.in-Unsubscribing.is)
    (c.leave.ensures errand 4 (ready_unsubscribed errand c.args.self.now c.in-Unsubscribing.field-0 p c.in-Unsubscribing.is) _ _)

-- it left
pub returns-in-Leaving : goal.returns-in-Leaving
returns-in-Leaving g c errand p = ([], λ more last. ap (λ (s : Stage). next_at errand s c.args.confirm more last) c.in-Leaving.is, λ x. x, says_nothing _)
