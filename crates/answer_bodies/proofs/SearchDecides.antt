-- A binary search among items in order.
use Rattle.std.proofs.Common.{◌≡◌, ℕ, ◌+◌, ◌<◌, ◌≤◌, List, length, get_or, Result, Ok, Err, IfOk, ap, sym, ◌∙◌, arith, is_ok}
use Rattle.std.proofs.lemmas.Bool.{cases_lt}
use Rattle.std.proofs.lemmas.Cmp.{eq_by_cmp_equiv}
use Rattle.std.proofs.lemmas.List.Folds.{list_any_at, list_any_none}
use Rattle.std.proofs.lemmas.List.Sorted.{searchable_from_sorted}
use Rattle.std.proofs.lemmas.Map.Keys.{Less-from_sorted}
use Rattle.std.specs.Cmp.{IsTotalOrder}
use Rattle.std.specs.List.{HoldsAt}
use Rattle.std.specs.List.Sorted.{IsStrictlySortedBy, IsSortedBy, IsNonDecreasingBy, IsSearchInRange, IsBinarySearchResult}
use Rattle.std.specs.Ordering.{eq_by_cmp, ordering_index, is_lt, is_eq}
use Rattle.std.specs.declared.cmp.Ordering.{Ordering}
use Rattle.std.specs.declared.cmp.Ordering.TheVariants.{Less, Equal, Greater}
use mathlib.Core.Logic.{⊎_elim}
use Rattle.m3_terms.specs.InsertedLaws.{above}
use Rattle.answer_bodies.specs.Lists.{is_among}

module _ {K : Type 0} {R : K → K → Ordering} (o : IsTotalOrder R) where
  -- items in order, each once, are in order
  in_order : (xs : List K) → IsStrictlySortedBy R xs → IsSortedBy (λ a b. is_lt (R a b)) xs
  in_order xs s k d low high = ap is_lt (above o (get_or xs k d) (get_or xs (k + 1) d) (Less-from_sorted R xs k (k + 1) d s (omega arith) high))

  -- they stand to each item in rising order
  rising : (x : K) (xs : List K) → IsStrictlySortedBy R xs → IsNonDecreasingBy (λ y. ordering_index (R y x)) xs
  rising x xs s = searchable_from_sorted o (λ y. y) xs x (in_order xs s)

  -- whether two items are tied, asked from the other side
  tied_as : (x y : K) (r : Ordering) → R y x ≡ r → eq_by_cmp R x y ≡ is_eq r
  tied_as x y r e = (eq_by_cmp_equiv o).symm x y ∙ ap is_eq e

  -- what a search finds says whether the item is among them
  pub search_decides : (xs : List K) (x : K) (r : Result ℕ ℕ) → IsStrictlySortedBy R xs → IsSearchInRange r (length xs)
      → IfOk r (HoldsAt (λ y. R y x ≡ Equal) xs) → IsBinarySearchResult (λ y. R y x) xs r → is_ok r ≡ is_among R xs x
  search_decides xs x (Ok at) s b h p = sym (list_any_at (eq_by_cmp R x) xs at x b (tied_as x (get_or xs at x) Equal (h x)))
  search_decides xs x (Err at) s b h p =
      let point = p (rising x xs s) in
      sym (list_any_none (eq_by_cmp R x) xs (λ k d within. ⊎_elim
      (λ (low : k < at). tied_as x (get_or xs k d) Less (point.0 k d (omega arith) low))
      (λ (high : at ≤ k). tied_as x (get_or xs k d) Greater (point.1 k d high within))
      (cases_lt k at)))
