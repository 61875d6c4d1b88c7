use Rattle.std.proofs.Common.{◌≡◌, ◌∙◌, ap, sym, refl, subst, ℕ, [], Option, Some, None, IfSome}
use Rattle.std.proofs.lemmas.Result.{err_from_is_err_and}
use Rattle.answer_bodies.specs.Laws.{IsSound}
use Rattle.answer_bodies.proofs.Backs.{sound_full}
use Rattle.answer_bodies.specs.declared.answer.Answer.{Answer}
use Rattle.kp_client.specs.Mirroring.{Mirroring, mirror_of}
use Rattle.kp_talk.specs.Talk.{Answered, subscribed, follows}
use Rattle.kp_talk.proofs.StepsAnswer.{answers_unprinted, answers_printed, answers_same, says_nothing}
use Rattle.kp_talk.proofs.party.Party.watch.Goals as goal

-- what is nothing else is nothing
none_where : (o : Option ℕ) → ((x : ℕ) → o ≡ Some x → ⊥) → o ≡ None
none_where None h = refl
none_where (Some x) h = absurd (h x refl)

-- the number is missing
pub returns-in_default : goal.returns-in_default
returns-in_default g c errand r = ([], λ more last. ap (λ n. subscribed last errand c.args.count n c.args.answer more) (none_where c.args.number c.in_default.not-Some), λ x. x, says_nothing _)

-- the answer was not printed whole
pub returns-in_err-print_answer : goal.returns-in_err-print_answer
unfolding Rattle.kp_talk.specs.Lines.line_bytes
returns-in_err-print_answer g c errand r =
    let p = err_from_is_err_and c.from_residual.result c.from_residual.ensures.1 in
    rw (p.1, p.2)
    (answers_unprinted errand _ (λ more last. follows last errand c.args.count (mirror_of c.in-Some.number c.in-Some-answer.answer) more) (Answered 0 c.in-Some-answer.answer)
    (λ more last. ap (λ n. subscribed last errand c.args.count n c.args.answer more) c.in-Some.is
    ∙ ap (λ o. subscribed last errand c.args.count (Some c.in-Some.number) o more) c.in-Some-answer.is) _ _ _ _ (c.in_err-print_answer.ensures _ _))

-- a sound answer is full
pub start-requires-clause-full : goal.start-requires-clause-full
start-requires-clause-full g c = sound_full c.in-Some-answer.answer (subst (λ (o : Option Answer). IfSome o IsSound) c.in-Some-answer.is c.requires.sound)

-- it was printed, and the party follows
pub returns : goal.returns
unfolding Rattle.kp_talk.specs.Lines.line_bytes
returns g c errand r =
    answers_printed errand _ (λ more last. follows last errand c.args.count (mirror_of c.in-Some.number c.in-Some-answer.answer) more) (Answered 0 c.in-Some-answer.answer)
    (λ more last. ap (λ n. subscribed last errand c.args.count n c.args.answer more) c.in-Some.is
    ∙ ap (λ o. subscribed last errand c.args.count (Some c.in-Some.number) o more) c.in-Some-answer.is) _ _ _ _ _
    (c.in_ok-print_answer.ensures _ _)
    (answers_same errand _ (λ more last. follows last errand c.args.count c.start.result more) _ _ _ _ (λ more last. ap (λ (m : Mirroring). follows last errand c.args.count m more) (sym c.start.ensures))
    (c.begin.ensures errand r _ _))
