-- The test of two forms tells whether they are one, and what nothing refuses may be folded.
use Rattle.std.proofs.Common.{◌≡◌, Bool, true, false, not, cond, ℕ, ◌+◌, ◌==◌, List, Option, Some, None, refl, sym, subst, ◌∙◌}
use Rattle.std.specs.Bool.{Decides}
use Rattle.std.specs.Cmp.Lexicographic.{pointwise_decides}
use Rattle.m3_terms.specs.OrderLaws.{text_exact}
use Rattle.answer_bodies.proofs.DifferenceLaws.{folded_in_order, folded_full}
use Rattle.answer_bodies.specs.declared.answer.Answer.{Answer}
use Rattle.answer_bodies.specs.declared.answer.Answer.TheVariants.{Triples, Table}
use Rattle.answer_bodies.specs.declared.answer.Difference.{Difference}
use Rattle.answer_bodies.specs.Differences.{HaveOneForm, IsInOrder, Fits, folded}
use Rattle.answer_bodies.specs.Writing.{IsFull}
use Rattle.kp_client.specs.declared.fault.MirrorFault.{MirrorFault}
use Rattle.kp_client.specs.declared.fault.MirrorFault.TheVariants.{OtherSubscription, Gap, OtherForm}
use Rattle.kp_client.specs.Mirroring.{Mirroring, are_columns, have_one_form, form_of, conflict, refusal}
use Rattle.kp_client.proofs.SameColumns.{same_columns}

-- the test of columns tells whether they are equal
columns_decide : (columns names : List (List ℕ)) → Decides (are_columns columns names) (columns ≡ names)
columns_decide columns names =
    let exact = pointwise_decides text_exact columns names in
    (λ same. exact.0 (sym (same_columns columns names) ∙ same), λ one. same_columns columns names ∙ exact.1 one)

-- the test of forms tells whether they are one
pub forms_decide : (answer other : Answer) → Decides (have_one_form answer other) (HaveOneForm answer other)
forms_decide (Triples triples) (Triples others) = (λ same. tt, λ one. refl)
forms_decide (Triples triples) (Table names others) = (λ same. cc, λ one. absurd one)
forms_decide (Table columns rows) (Triples others) = (λ same. cc, λ one. absurd one)
forms_decide (Table columns rows) (Table names others) = columns_decide columns names

-- where a test leads to no fault, it holds, and so does what comes behind it
pub passed : (b : Bool) (fault : MirrorFault) (rest : Option MirrorFault) → cond (not b) (Some fault) rest ≡ None → (b ≡ true) × (rest ≡ None)
passed true fault rest e = (refl, e)
passed false fault rest e = cc

-- both sides of a difference that nothing refuses have the answer's form
pub both_forms : (mirror : Mirroring) (answer : Answer) (subscription sequence : ℕ) (difference : Difference) → mirror.answer ≡ answer
    → refusal mirror subscription sequence difference ≡ None → HaveOneForm answer difference.obsolete × HaveOneForm answer difference.added
both_forms mirror answer subscription sequence difference is none =
    let other = OtherForm (form_of mirror.answer) (form_of difference.obsolete) in
    let more = OtherForm (form_of mirror.answer) (form_of difference.added) in
    let number = passed (subscription == mirror.subscription) (OtherSubscription mirror.subscription subscription) _ none in
    let place = passed (sequence == mirror.applied + 1) (Gap (mirror.applied + 1) sequence) _ number.1 in
    let obsolete = passed (have_one_form mirror.answer difference.obsolete) other _ place.1 in
    let added = passed (have_one_form mirror.answer difference.added) more (conflict mirror.answer difference) obsolete.1 in (
      (forms_decide answer difference.obsolete).0 (subst (λ a. have_one_form a difference.obsolete ≡ true) is obsolete.0),
      (forms_decide answer difference.added).0 (subst (λ a. have_one_form a difference.added ≡ true) is added.0),
    )

-- so it may be folded into the answer
pub may_fold : (mirror : Mirroring) (answer : Answer) (subscription sequence : ℕ) (difference : Difference) → mirror.answer ≡ answer
    → refusal mirror subscription sequence difference ≡ None → IsInOrder difference.obsolete → Fits answer difference
may_fold mirror answer subscription sequence difference is none rises =
    let forms = both_forms mirror answer subscription sequence difference is none in
    record { added = forms.1; obsolete = forms.0; rises = rises }

-- the answer behind it is in order and its rows are full
pub stays_sound : (old new : Answer) (difference : Difference) → new ≡ folded old difference → HaveOneForm old difference.added
    → IsInOrder old → IsFull old → IsFull difference.added → IsInOrder new × IsFull new
stays_sound old new difference is form rises full more = (
  subst IsInOrder (sym is) (folded_in_order old difference rises),
  subst IsFull (sym is) (folded_full old difference form full more),
)
