-- Each refusal of a mirror holds in plain words, and what holds in plain words is told.
use Rattle.std.proofs.Common.{◌≡◌, inl, inr, ℕ, ◌+◌, ◌==◌, Bool, true, false, not, cond, List, [], ◌∷◌, Option, Some, None, refl, sym, ap, subst, ◌∙◌}
use Rattle.std.proofs.lemmas.Bool.Decides.{Decides-eqb}
use Rattle.std.specs.Bool.{Decides}
use Rattle.std.specs.List.{AllByRecursion}
use mathlib.Core.Logic.{⊎_elim}
use Rattle.m3_terms.specs.Order.{row_cmp}
use Rattle.m3_terms.specs.declared.term.Term.{Term}
use Rattle.answer_bodies.specs.declared.answer.Answer.{Answer}
use Rattle.answer_bodies.specs.declared.answer.Difference.{Difference}
use Rattle.answer_bodies.specs.Differences.{HaveOneForm}
use Rattle.answer_bodies.specs.Lists.{is_among}
use Rattle.kp_client.specs.declared.fault.MirrorFault.{MirrorFault}
use Rattle.kp_client.specs.declared.fault.MirrorFault.TheVariants.{OtherSubscription, Gap, OtherForm, Conflict, NoMemory}
use Rattle.kp_client.specs.Mirroring.{Mirroring, form_of, have_one_form, rows_in, first_missing, first_present, conflict_or, conflict, refusal}
use Rattle.kp_client.specs.MirrorLaws.{IsNext, HasItsForm, HasRow, LacksRow, IsConflict, IsOtherForm, IsRefusedFor, RefusalsAreExact}
use Rattle.kp_client.proofs.OneForm.{forms_decide}
use Rattle.kp_client.proofs.FirstRows.{there_decides, denied, stable, fails, fails_not, nothing, none_found, first, first_found}

-- ---- what the parts of a refusal come to

-- what is told of a difference whose obsolete side has the answer's form
abbrev by_added : Answer → Difference → Option MirrorFault
by_added answer difference =
    cond (not (have_one_form answer difference.added)) (Some (OtherForm (form_of answer) (form_of difference.added))) (conflict answer difference)

-- what is told of a difference of this subscription and number
abbrev by_form : Answer → Difference → Option MirrorFault
by_form answer difference =
    cond (not (have_one_form answer difference.obsolete)) (Some (OtherForm (form_of answer) (form_of difference.obsolete))) (by_added answer difference)

-- what is told of a difference of this subscription
abbrev by_number : Mirroring → ℕ → Difference → Option MirrorFault
by_number mirror sequence difference =
    cond (not (sequence == mirror.applied + 1)) (Some (Gap (mirror.applied + 1) sequence)) (by_form mirror.answer difference)

-- where a test holds, what stands behind it is told
goes_on : (b : Bool) (x y : Option MirrorFault) → b ≡ true → cond (not b) x y ≡ y
goes_on b x y e = ap (λ t. cond (not t) x y) e

-- and where it fails, its fault is
stops : (b : Bool) (x y : Option MirrorFault) → b ≡ false → cond (not b) x y ≡ x
stops b x y e = ap (λ t. cond (not t) x y) e

-- what holds of both holds of what a test chooses
chosen : (b : Bool) (F : Option MirrorFault → Type 0) (x y : Option MirrorFault) → (b ≡ false → F x) → (b ≡ true → F y) → F (cond (not b) x y)
chosen true F x y stopped passed = passed refl
chosen false F x y stopped passed = stopped refl

-- ---- what is told holds

-- the test of what an answer lacks tells it
lacks_decides : (answer : Answer) (row : List (Option Term)) → Decides (not (is_among row_cmp (rows_in answer) row)) (LacksRow answer row)
lacks_decides answer row = denied (is_among row_cmp (rows_in answer) row) (HasRow answer row) (there_decides (rows_in answer) row)

-- where no row is lacking, each is there
each_there : (answer : Answer) (rows : List (List (Option Term))) → AllByRecursion (λ row. ¬ (LacksRow answer row)) rows → AllByRecursion (HasRow answer) rows
each_there answer [] all = tt
each_there answer (row ∷ rows) all = (
  stable (is_among row_cmp (rows_in answer) row) (HasRow answer row) (there_decides (rows_in answer) row) all.0,
  each_there answer rows all.1,
)

-- and where each is there, none is lacking
none_lacking : (answer : Answer) (rows : List (List (Option Term))) → AllByRecursion (HasRow answer) rows → AllByRecursion (λ row. ¬ (LacksRow answer row)) rows
none_lacking answer [] all = tt
none_lacking answer (row ∷ rows) all = (λ lacks. lacks all.0, none_lacking answer rows all.1)

-- a conflict, or that there is none
conflict_told : (mirror : Mirroring) (subscription sequence : ℕ) (difference : Difference) → IsNext mirror subscription sequence
    → HasItsForm mirror.answer difference → (missing present : Option (List (Option Term)))
    → first_missing mirror.answer difference.obsolete ≡ missing → first_present mirror.answer difference.added ≡ present
    → IsRefusedFor mirror subscription sequence difference (conflict_or (conflict_or None present) missing)
conflict_told mirror subscription sequence difference next form (Some row) present lacks has =
    (next, form, inl (first _ (LacksRow mirror.answer) (lacks_decides mirror.answer) (rows_in difference.obsolete) row lacks))
conflict_told mirror subscription sequence difference next form None (Some row) lacks has = (
  next,
  form,
  inr (
    each_there mirror.answer (rows_in difference.obsolete) (nothing _ (LacksRow mirror.answer) (lacks_decides mirror.answer) (rows_in difference.obsolete) lacks),
    first _ (HasRow mirror.answer) (there_decides (rows_in mirror.answer)) (rows_in difference.added) row has,
  ),
)
conflict_told mirror subscription sequence difference next form None None lacks has = (
  next,
  form,
  each_there mirror.answer (rows_in difference.obsolete) (nothing _ (LacksRow mirror.answer) (lacks_decides mirror.answer) (rows_in difference.obsolete) lacks),
  nothing _ (HasRow mirror.answer) (there_decides (rows_in mirror.answer)) (rows_in difference.added) has,
)

-- what is told of the next difference
form_told : (mirror : Mirroring) (subscription sequence : ℕ) (difference : Difference) → IsNext mirror subscription sequence
    → IsRefusedFor mirror subscription sequence difference (by_form mirror.answer difference)
form_told mirror subscription sequence difference next =
    let answer = mirror.answer in
    let F = IsRefusedFor mirror subscription sequence difference in
    let obsolete = forms_decide answer difference.obsolete in
    let added = forms_decide answer difference.added in
    chosen (have_one_form answer difference.obsolete) F (Some (OtherForm (form_of answer) (form_of difference.obsolete))) (by_added answer difference)
    (λ other. (next, refl, inl (fails_not _ _ obsolete other, refl)))
    (λ one. chosen (have_one_form answer difference.added) F (Some (OtherForm (form_of answer) (form_of difference.added))) (conflict answer difference)
    (λ other. (next, refl, inr (obsolete.0 one, fails_not _ _ added other, refl)))
    (λ both. conflict_told mirror subscription sequence difference next (record { obsolete = obsolete.0 one; added = added.0 both }) _ _ refl refl))

-- what is told of a difference holds in plain words
refusal_told : (mirror : Mirroring) (subscription sequence : ℕ) (difference : Difference)
    → IsRefusedFor mirror subscription sequence difference (refusal mirror subscription sequence difference)
refusal_told mirror subscription sequence difference =
    let F = IsRefusedFor mirror subscription sequence difference in
    let own = Decides-eqb subscription mirror.subscription in
    let next = Decides-eqb sequence (mirror.applied + 1) in
    chosen (subscription == mirror.subscription) F (Some (OtherSubscription mirror.subscription subscription)) (by_number mirror sequence difference)
    (λ other. (fails_not _ _ own other, refl, refl))
    (λ same. chosen (sequence == mirror.applied + 1) F (Some (Gap (mirror.applied + 1) sequence)) (by_form mirror.answer difference)
    (λ gap. (own.0 same, fails_not _ _ next gap, refl, refl))
    (λ here. form_told mirror subscription sequence difference (record { own = own.0 same; next = next.0 here })))

-- ---- what holds is told

-- of a difference of this subscription what its number leads to is told
own_is : (mirror : Mirroring) (subscription sequence : ℕ) (difference : Difference) → subscription ≡ mirror.subscription
    → refusal mirror subscription sequence difference ≡ by_number mirror sequence difference
own_is mirror subscription sequence difference own =
    goes_on (subscription == mirror.subscription) (Some (OtherSubscription mirror.subscription subscription)) (by_number mirror sequence difference)
    ((Decides-eqb subscription mirror.subscription).1 own)

-- of the next one what its form leads to is
next_is : (mirror : Mirroring) (subscription sequence : ℕ) (difference : Difference) → IsNext mirror subscription sequence
    → refusal mirror subscription sequence difference ≡ by_form mirror.answer difference
next_is mirror subscription sequence difference next =
    own_is mirror subscription sequence difference next.own
    ∙ goes_on (sequence == mirror.applied + 1) (Some (Gap (mirror.applied + 1) sequence)) (by_form mirror.answer difference)
    ((Decides-eqb sequence (mirror.applied + 1)).1 next.next)

-- where the obsolete side has the answer's form, what the other leads to is
obsolete_is : (answer : Answer) (difference : Difference) → HaveOneForm answer difference.obsolete → by_form answer difference ≡ by_added answer difference
obsolete_is answer difference one =
    goes_on (have_one_form answer difference.obsolete) (Some (OtherForm (form_of answer) (form_of difference.obsolete))) (by_added answer difference)
    ((forms_decide answer difference.obsolete).1 one)

-- and where both have it, the conflict is
forms_are : (answer : Answer) (difference : Difference) → HasItsForm answer difference → by_form answer difference ≡ conflict answer difference
forms_are answer difference form =
    obsolete_is answer difference form.obsolete
    ∙ goes_on (have_one_form answer difference.added) (Some (OtherForm (form_of answer) (form_of difference.added))) (conflict answer difference)
    ((forms_decide answer difference.added).1 form.added)

-- where each obsolete row is there, none is missing
none_missing : (answer : Answer) (difference : Difference) → AllByRecursion (HasRow answer) (rows_in difference.obsolete)
    → first_missing answer difference.obsolete ≡ None
none_missing answer difference all =
    none_found _ (LacksRow answer) (lacks_decides answer) (rows_in difference.obsolete) (none_lacking answer (rows_in difference.obsolete) all)

-- a conflict is told
conflict_is : (answer : Answer) (difference : Difference) (row : List (Option Term)) → IsConflict answer difference row
    → conflict answer difference ≡ Some (Conflict row)
conflict_is answer difference row = ⊎_elim
    (λ lacks. ap (conflict_or (conflict_or None (first_present answer difference.added)))
    (first_found _ (LacksRow answer) (lacks_decides answer) (rows_in difference.obsolete) row lacks))
    (λ has.
    let missing = none_missing answer difference has.0 in
    let present : first_present answer difference.added ≡ Some row =
    first_found _ (HasRow answer) (there_decides (rows_in answer)) (rows_in difference.added) row has.1
    in
    λ i. conflict_or (conflict_or None (present i)) (missing i))

-- another form is told
other_is : (answer : Answer) (difference : Difference) (want got : List (List ℕ)) → want ≡ form_of answer → IsOtherForm answer difference got
    → by_form answer difference ≡ Some (OtherForm want got)
other_is answer difference want got is = ⊎_elim
    (λ other. stops (have_one_form answer difference.obsolete) (Some (OtherForm (form_of answer) (form_of difference.obsolete))) (by_added answer difference)
    (fails _ _ (forms_decide answer difference.obsolete) other.0)
    ∙ sym (λ i. Some (OtherForm (is i) (other.1 i))))
    (λ other. obsolete_is answer difference other.0
    ∙ stops (have_one_form answer difference.added) (Some (OtherForm (form_of answer) (form_of difference.added))) (conflict answer difference)
    (fails _ _ (forms_decide answer difference.added) other.1)
    ∙ sym (λ i. Some (OtherForm (is i) (other.2 i))))

-- what holds in plain words is told
refusal_is : (mirror : Mirroring) (subscription sequence : ℕ) (difference : Difference) (reason : Option MirrorFault)
    → IsRefusedFor mirror subscription sequence difference reason → refusal mirror subscription sequence difference ≡ reason
refusal_is mirror subscription sequence difference None holds =
    let present : first_present mirror.answer difference.added ≡ None =
    none_found _ (HasRow mirror.answer) (there_decides (rows_in mirror.answer)) (rows_in difference.added) holds.3
    in
    let missing = none_missing mirror.answer difference holds.2 in
    next_is mirror subscription sequence difference holds.0
    ∙ forms_are mirror.answer difference holds.1
    ∙ (λ i. conflict_or (conflict_or None (present i)) (missing i))
refusal_is mirror subscription sequence difference (Some (OtherSubscription want got)) holds =
    stops (subscription == mirror.subscription) (Some (OtherSubscription mirror.subscription subscription)) (by_number mirror sequence difference)
    (fails _ _ (Decides-eqb subscription mirror.subscription) holds.0)
    ∙ sym (λ i. Some (OtherSubscription (holds.1 i) (holds.2 i)))
refusal_is mirror subscription sequence difference (Some (Gap want got)) holds =
    own_is mirror subscription sequence difference holds.0
    ∙ stops (sequence == mirror.applied + 1) (Some (Gap (mirror.applied + 1) sequence)) (by_form mirror.answer difference)
    (fails _ _ (Decides-eqb sequence (mirror.applied + 1)) holds.1)
    ∙ sym (λ i. Some (Gap (holds.2 i) (holds.3 i)))
refusal_is mirror subscription sequence difference (Some (OtherForm want got)) holds =
    next_is mirror subscription sequence difference holds.0 ∙ other_is mirror.answer difference want got holds.1 holds.2
refusal_is mirror subscription sequence difference (Some (Conflict row)) holds =
    next_is mirror subscription sequence difference holds.0
    ∙ forms_are mirror.answer difference holds.1
    ∙ conflict_is mirror.answer difference row holds.2
refusal_is mirror subscription sequence difference (Some NoMemory) holds = absurd holds

pub refusals_are_exact : RefusalsAreExact
refusals_are_exact mirror subscription sequence difference reason = (
  λ e. subst (IsRefusedFor mirror subscription sequence difference) e (refusal_told mirror subscription sequence difference),
  λ holds. refusal_is mirror subscription sequence difference reason holds,
)
