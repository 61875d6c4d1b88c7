use Rattle.std.proofs.Common.{refl, []}
use Rattle.std.proofs.lemmas.Result.{err_from_is_err_and}
use Rattle.kp_talk.proofs.ChangesFollow.{change_refused, change_unprinted, change_printed, lines_as, unprinted_as}
use Rattle.kp_talk.proofs.StepsAnswer.{says_as}
use Rattle.kp_talk.proofs.following.change.Goals as goal

-- the change is refused
pub returns-in-Err-clause-follows : goal.returns-in-Err-clause-follows
returns-in-Err-clause-follows g c errand heads written writes =
    change_refused errand c.args.left.now c.args.mirror.now heads c.args.subscription c.args.sequence c.args.difference.now c.requires.left _ c.in-Err.fault c.broken.result _ _
    c.in-Err.ensures.applies.0 c.broken.ensures

-- the answer behind it was not printed whole
pub returns-in_err-print_answer-clause-follows : goal.returns-in_err-print_answer-clause-follows
returns-in_err-print_answer-clause-follows g c errand heads written writes =
    let p = err_from_is_err_and c.from_residual.result c.from_residual.ensures.1 in
    rw (p.1, p.2)
    (change_unprinted errand c.args.left.now c.args.mirror.now heads c.args.subscription c.args.sequence c.args.difference.now c.requires.left c.in-Ok.ensures.applies.0 c.apply.new.self
    c.in-Ok.ensures.applies.1 _ _ _ _ _
    (unprinted_as _ _ c.in_err-print_answer.field-0.0 _ _ (lines_as _ _ _ _ c.applied.ensures c.answer.ensures.value) (c.in_err-print_answer.ensures written writes)))

-- it was printed
pub returns-clause-follows : goal.returns-clause-follows
returns-clause-follows g c errand heads written writes =
    change_printed errand c.args.left.now c.args.mirror.now heads c.args.subscription c.args.sequence c.args.difference.now c.requires.left c.in-Ok.ensures.applies.0 c.apply.new.self
    c.in-Ok.ensures.applies.1 _ _ c.requires.count
    (says_as _ _ [] _ [] _ refl (lines_as _ _ _ _ c.applied.ensures c.answer.ensures.value) (c.in_ok-print_answer.ensures written writes))
