-- The laws of differences, by the form that answers have.
use Rattle.std.proofs.Common.{◌≡◌, true, List, [], length, nat_eq, refl, sym, ap, subst, ◌∙◌}
use Rattle.std.proofs.lemmas.Bool.{and_parts, and_from, eqb-true}
use Rattle.std.proofs.lemmas.List.{nil_from_length}
use Rattle.std.proofs.lemmas.Map.Lookups.{CmpEqualImpliesEq}
use Rattle.m3_terms.specs.Order.{triple_cmp, row_cmp}
use Rattle.m3_terms.specs.OrderLaws.{triple_cmp_total, row_cmp_total, triple_cmp_exact, row_cmp_exact}
use Rattle.answer_bodies.specs.Differences.{HaveOneForm, IsInOrder, MayFollow, without_rows, with_rows, difference_of, is_empty_difference}
use Rattle.answer_bodies.specs.Laws.{DifferencesAreFolded, DifferencesFit, SidesAreInOrder, SidesAreFull, SidesAreApart, EqualsDifferInNothing, EmptyExactlyWhereEqual, FoldedIsInOrder, FoldedKeepsForm, FoldedIsFull}
use Rattle.answer_bodies.specs.Lists.{without}
use Rattle.answer_bodies.specs.Writing.{AreFull, IsFull}
use Rattle.answer_bodies.specs.declared.answer.Answer.{Answer}
use Rattle.answer_bodies.specs.declared.answer.Answer.TheVariants.{Triples, Table}
use Rattle.answer_bodies.proofs.AmongItems.{all_without, all_with_all}
use Rattle.answer_bodies.proofs.FoldedItems.{folded_back, sorted_with_all, sorted_without, without_apart, without_itself, equal_lists}

-- the order of triples answers `Equal` at one triple alone
one_triple : CmpEqualImpliesEq triple_cmp
one_triple s t = (triple_cmp_exact s t).0

-- the order of rows answers `Equal` at one row alone
one_row : CmpEqualImpliesEq row_cmp
one_row a b = (row_cmp_exact a b).0

-- the difference of two answers, folded into the earlier, gives the later
pub differences_folded : DifferencesAreFolded
differences_folded (Triples xs) (Triples ys) are = ap Triples (folded_back triple_cmp_total one_triple xs ys are.earlier are.later)
differences_folded (Triples xs) (Table names ys) are = absurd are.form
differences_folded (Table columns xs) (Triples ys) are = absurd are.form
differences_folded (Table columns xs) (Table names ys) are =
    let rows = folded_back row_cmp_total one_row xs ys are.earlier are.later in
    λ i. Table (are.form i) (rows i)

-- an answer in order stays so without what is among another
in_order_without : (answer other : Answer) → IsInOrder answer → IsInOrder (without_rows answer other)
in_order_without (Triples xs) (Triples ys) s = sorted_without triple_cmp_total one_triple xs ys s
in_order_without (Triples xs) (Table names ys) s = s
in_order_without (Table columns xs) (Triples ys) s = s
in_order_without (Table columns xs) (Table names ys) s = sorted_without row_cmp_total one_row xs ys s

-- and with what another has
in_order_with : (answer more : Answer) → IsInOrder answer → IsInOrder (with_rows answer more)
in_order_with (Triples xs) (Triples ys) s = sorted_with_all triple_cmp_total one_triple xs ys s
in_order_with (Triples xs) (Table names ys) s = s
in_order_with (Table columns xs) (Triples ys) s = s
in_order_with (Table columns xs) (Table names ys) s = sorted_with_all row_cmp_total one_row xs ys s

pub sides_in_order : SidesAreInOrder
sides_in_order before after s t = (in_order_without after before t, in_order_without before after s)

pub folded_in_order : FoldedIsInOrder
folded_in_order answer difference s =
    in_order_with (without_rows answer difference.obsolete) difference.added (in_order_without answer difference.obsolete s)

-- an answer keeps its form without what is among another
form_without : (answer other : Answer) → HaveOneForm answer (without_rows answer other)
form_without (Triples xs) (Triples ys) = tt
form_without (Triples xs) (Table names ys) = tt
form_without (Table columns xs) (Triples ys) = refl
form_without (Table columns xs) (Table names ys) = refl

-- the sides of a difference have the form of the earlier
form_added : (before after : Answer) → HaveOneForm before after → HaveOneForm before (without_rows after before)
form_added (Triples xs) (Triples ys) form = tt
form_added (Triples xs) (Table names ys) form = absurd form
form_added (Table columns xs) (Triples ys) form = absurd form
form_added (Table columns xs) (Table names ys) form = form

pub differences_fit : DifferencesFit
differences_fit before after are = record {
  added = form_added before after are.form;
  obsolete = form_without before after;
  rises = in_order_without before after are.earlier;
}

-- full rows are full without what is among another answer
full_without : (answer other : Answer) → IsFull answer → IsFull (without_rows answer other)
full_without (Triples xs) (Triples ys) full = tt
full_without (Triples xs) (Table names ys) full = tt
full_without (Table columns xs) (Triples ys) full = full
full_without (Table columns xs) (Table names ys) full = all_without row_cmp (λ row. length row ≡ length columns) xs ys full

-- and with the full rows of another of its form
full_with : (answer more : Answer) → HaveOneForm answer more → IsFull answer → IsFull more → IsFull (with_rows answer more)
full_with (Triples xs) (Triples ys) form full fresh = tt
full_with (Triples xs) (Table names ys) form full fresh = tt
full_with (Table columns xs) (Triples ys) form full fresh = full
full_with (Table columns xs) (Table names ys) form full fresh =
    all_with_all row_cmp (λ row. length row ≡ length columns) xs ys full (subst (λ names. AreFull names ys) (sym form) fresh)

pub sides_full : SidesAreFull
sides_full before after full fresh = (full_without after before fresh, full_without before after full)

-- an answer keeps its form with what another has
form_with : (answer more : Answer) → HaveOneForm answer (with_rows answer more)
form_with (Triples xs) (Triples ys) = tt
form_with (Triples xs) (Table names ys) = tt
form_with (Table columns xs) (Triples ys) = refl
form_with (Table columns xs) (Table names ys) = refl

-- what has the form of what has a form has that form
form_on : (first second third : Answer) → HaveOneForm first second → HaveOneForm second third → HaveOneForm first third
form_on (Triples xs) (Triples ys) (Triples zs) f g = tt
form_on (Triples xs) (Triples ys) (Table others zs) f g = absurd g
form_on (Triples xs) (Table names ys) third f g = absurd f
form_on (Table columns xs) (Triples ys) third f g = absurd f
form_on (Table columns xs) (Table names ys) (Triples zs) f g = absurd g
form_on (Table columns xs) (Table names ys) (Table others zs) f g = f ∙ g

pub folded_form : FoldedKeepsForm
folded_form answer difference =
    let rest = without_rows answer difference.obsolete in
    form_on answer rest (with_rows rest difference.added) (form_without answer difference.obsolete) (form_with rest difference.added)

-- what has the answer's form has the form of what is left of it
form_left : (answer other more : Answer) → HaveOneForm answer more → HaveOneForm (without_rows answer other) more
form_left (Triples xs) (Triples ys) more form = form
form_left (Triples xs) (Table names ys) more form = form
form_left (Table columns xs) (Triples ys) more form = form
form_left (Table columns xs) (Table names ys) more form = form

pub folded_full : FoldedIsFull
folded_full answer difference form full fresh =
    full_with (without_rows answer difference.obsolete) difference.added (form_left answer difference.obsolete difference.added form)
    (full_without answer difference.obsolete full) fresh

-- nothing is both added and obsolete
pub sides_apart : SidesAreApart
sides_apart (Triples xs) (Triples ys) = without_apart triple_cmp_total one_triple xs ys
sides_apart (Triples xs) (Table names ys) = tt
sides_apart (Table columns xs) (Triples ys) = tt
sides_apart (Table columns xs) (Table names ys) = without_apart row_cmp_total one_row xs ys

-- a list that is empty has no item
empty_length : {X : Type 0} (xs : List X) → xs ≡ [] → nat_eq (length xs) 0 ≡ true
empty_length xs e = ap (λ l. nat_eq (length l) 0) e

-- and a list that has none is empty
length_empty : {X : Type 0} (xs : List X) → nat_eq (length xs) 0 ≡ true → xs ≡ []
length_empty xs e = nil_from_length xs (eqb-true (length xs) 0 e)

pub equals_differ : EqualsDifferInNothing
equals_differ (Triples xs) =
    let none = empty_length (without triple_cmp xs xs) (without_itself triple_cmp_total one_triple xs) in
    and_from _ _ none none
equals_differ (Table columns xs) =
    let none = empty_length (without row_cmp xs xs) (without_itself row_cmp_total one_row xs) in
    and_from _ _ none none

-- answers that differ in nothing are equal
empty_equal : (before after : Answer) → MayFollow before after → is_empty_difference (difference_of before after) ≡ true → before ≡ after
empty_equal (Triples xs) (Triples ys) are none =
    let both = and_parts _ _ none in
    ap Triples (equal_lists triple_cmp_total one_triple xs ys are.earlier are.later
    (length_empty (without triple_cmp ys xs) both.0) (length_empty (without triple_cmp xs ys) both.1))
empty_equal (Triples xs) (Table names ys) are none = absurd are.form
empty_equal (Table columns xs) (Triples ys) are none = absurd are.form
empty_equal (Table columns xs) (Table names ys) are none =
    let both = and_parts _ _ none in
    let rows = equal_lists row_cmp_total one_row xs ys are.earlier are.later
    (length_empty (without row_cmp ys xs) both.0) (length_empty (without row_cmp xs ys) both.1)
    in
    λ i. Table (are.form i) (rows i)

pub empty_exactly : EmptyExactlyWhereEqual
empty_exactly before after are = (
  empty_equal before after are,
  λ same. subst (λ next. is_empty_difference (difference_of before next) ≡ true) same (equals_differ before),
)
