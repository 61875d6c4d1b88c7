-- The order of items without doubles, or a double among neighbours.
use Rattle.std.proofs.Common.{rules, subst, sym, ◌∙◌}
use Rattle.std.proofs.lemmas.List.Sorted.{answers_always}
use Rattle.std.specs.List.Sorted.{IsPermutation, IsSorted, IsStrictlySortedBy}
use Rattle.std.specs.Ordering.{is_lt}
use Rattle.answer_bodies.proofs.Orders.{rises, tied}
use Rattle.answer_bodies.proofs.lists.ordered.Goals as goal

pub returns-then-is_sorted_by : goal.returns-then-is_sorted_by
returns-then-is_sorted_by g c =
    let rising = c.if-is_sorted_by.ensures.cases (λ x y. is_lt (g.T.Ord.cmp x y)) (answers_always _ _ _ (λ f a r f' k. search rules)) in
    record {
      same = subst (λ l. IsPermutation l c.from_vec.result) c.into_vec-items.ensures
          (subst (λ l. IsPermutation c.into_vec-items.result.items l) (sym c.from_vec.ensures) c.sort.ensures.permutation);
      rises = subst (λ l. IsStrictlySortedBy g.T.Ord.cmp l) (c.as_slice.ensures.value ∙ sym c.from_vec.ensures)
          (rises g.met.T.Ord.total c.as_slice.result.now rising);
    }

pub returns-else-is_sorted_by : goal.returns-else-is_sorted_by
returns-else-is_sorted_by g c =
    let flat = c.if-is_sorted_by.ensures.cases (λ x y. is_lt (g.T.Ord.cmp x y)) (answers_always _ _ _ (λ f a r f' k. search rules)) in
    let same = subst (λ l. IsPermutation l c.as_slice.result.now) c.into_vec-items.ensures
    (subst (λ l. IsPermutation c.into_vec-items.result.items l) (sym c.as_slice.ensures.value) c.sort.ensures.permutation)
    in
    let sorted = subst (λ l. IsSorted g.T.Ord.cmp l) (sym c.as_slice.ensures.value) c.in_ok-sort.ensures.sorted in
    tied g.met.T.Ord.total c.args.items c.as_slice.result.now same sorted flat
