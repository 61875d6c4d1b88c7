-- Items that are sorted, and of which none stands twice, are one list in order.
use Rattle.std.proofs.Common.{◌≡◌, ◌+◌, false, List, [], ◌∷◌, get_or, refl, sym, ap, ◌∙◌, arith}
use Rattle.std.proofs.lemmas.Bool.{true≢false}
use Rattle.std.proofs.lemmas.Cmp.{eq_by_cmp_equiv}
use Rattle.std.proofs.lemmas.List.Sorted.{Contains-permutation, IsPermutation-sym}
use Rattle.std.proofs.lemmas.Map.Keys.{IsDistinct-from_sorted, IsDistinct-IsPermutation, apart_from_distinct, sorted_from_all_adjacent}
use Rattle.std.specs.Cmp.{IsTotalOrder}
use Rattle.std.specs.List.{IsDistinct}
use Rattle.std.specs.List.Sorted.{IsPermutation, IsSorted, IsStrictlySortedBy}
use Rattle.std.specs.Ordering.{eq_by_cmp, is_lt, is_eq, ordering_reverse}
use Rattle.std.specs.declared.cmp.Ordering.{Ordering}
use Rattle.std.specs.declared.cmp.Ordering.TheVariants.{Less, Equal, Greater}
use Rattle.triple_index.specs.GraphLaws.{sorted_same}

-- what is neither equal nor above is below
neither : (r : Ordering) → is_eq r ≡ false → is_lt (ordering_reverse r) ≡ false → r ≡ Less
neither Less e f = refl
neither Equal e f = absurd (true≢false e)
neither Greater e f = absurd (true≢false f)

module _ {K : Type 0} {R : K → K → Ordering} (o : IsTotalOrder R) where
  -- distinct items that are sorted are strictly in order
  pub sorted_strictly : (xs : List K) → IsDistinct (eq_by_cmp R) xs → IsSorted R xs → IsStrictlySortedBy R xs
  unfolding IsStrictlySortedBy
  sorted_strictly [] apart sorted = tt
  sorted_strictly (x ∷ xs) apart sorted = sorted_from_all_adjacent o (x ∷ xs) x (λ k within.
      let here : K = get_or (x ∷ xs) k x in
      let next : K = get_or (x ∷ xs) (k + 1) x in
      neither (R here next) (apart_from_distinct (eq_by_cmp R) (x ∷ xs) k (k + 1) x apart (omega arith) within)
      (ap is_lt (sym (o.antisymm next here)) ∙ sorted k x (omega arith) within))

  -- a sorted permutation of items in order, each once, is those items
  pub order_once : (given xs : List K) → IsStrictlySortedBy R given → IsPermutation given xs → IsSorted R xs → xs ≡ given
  order_once given xs strict same sorted = sorted_same o xs given
      (sorted_strictly xs
      (IsDistinct-IsPermutation (eq_by_cmp R) (eq_by_cmp_equiv o).symm given xs same (IsDistinct-from_sorted R given strict)) sorted)
      strict
      (λ q c. Contains-permutation xs given q (IsPermutation-sym given xs same) c)
      (λ q c. Contains-permutation given xs q same c)
