use Rattle.std.proofs.Common.{ap}
use Rattle.std.proofs.lemmas.Result.{err_from_is_err_and}
use Rattle.kp_talk.specs.Talk.{Answered, answered, leaves}
use Rattle.kp_talk.proofs.StepsAnswer.{answers_unprinted, answers_printed}
use Rattle.kp_talk.proofs.party.Party.answer.Goals as goal

-- the answer was not printed whole
pub returns-in_err-print_answer : goal.returns-in_err-print_answer
unfolding Rattle.kp_talk.specs.Lines.line_bytes
returns-in_err-print_answer g c errand r =
    let p = err_from_is_err_and c.from_residual.result c.from_residual.ensures.1 in
    rw (p.1, p.2)
    (answers_unprinted errand _ (λ more last. leaves last errand 3 more) (Answered 0 c.in-Some.answer) (λ more last. ap (λ o. answered last errand o more) c.in-Some.is) _ _ _ _
    (c.in_err-print_answer.ensures _ _))

-- it was printed, and the party leaves
pub returns : goal.returns
unfolding Rattle.kp_talk.specs.Lines.line_bytes
returns g c errand r =
    answers_printed errand _ (λ more last. leaves last errand 3 more) (Answered 0 c.in-Some.answer) (λ more last. ap (λ o. answered last errand o more) c.in-Some.is) _ _ _ _ _
    (c.in_ok-print_answer.ensures _ _) (c.leave.ensures errand 3 r _ _)
