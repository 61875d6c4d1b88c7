-- A binary search among items in order.
use Rattle.std.proofs.Common.{◌≡◌, ℕ, ◌+◌, ◌<◌, ◌≤◌, ◌↔◌, Bool, true, List, length, get_or, Contains, Result, Ok, Err, IfOk, IsTrue, refl, sym, ap, ◌∙◌, arith, is_ok}
use Rattle.std.proofs.lemmas.Bool.{cases_lt, false_from_ne_true}
use Rattle.std.proofs.lemmas.Cmp.{tied_itself}
use Rattle.std.proofs.lemmas.List.Sorted.{searchable_from_sorted}
use Rattle.std.proofs.lemmas.Map.Keys.{Less-from_sorted}
use Rattle.std.specs.List.{HoldsAt}
use Rattle.std.specs.List.Sorted.{IsStrictlySortedBy, IsSortedBy, IsNonDecreasingBy, IsPartitionPoint, IsPartitionedBy, IsSearchInRange, IsBinarySearchResult}
use Rattle.std.specs.Cmp.{IsTotalOrder}
use Rattle.std.specs.Ordering.{ordering_index, is_lt, is_le}
use Rattle.std.specs.declared.cmp.Ordering.{Ordering}
use Rattle.std.specs.declared.cmp.Ordering.TheVariants.{Less, Equal, Greater}
use mathlib.Core.Logic.{⊎_elim}
use Rattle.m3_terms.specs.InsertedLaws.{above}
use Rattle.triple_index.specs.Changes.{AreOrdered}
use Rattle.triple_index.specs.Graphs.{fits_one}
use Rattle.triple_index.specs.GraphLaws.{found_among, is_found}
use Rattle.triple_index.specs.IdOrder.{id_triple_cmp, id_triple_eq}
use Rattle.triple_index.specs.IdOrderLaws.{id_triple_cmp_total, id_triple_one, id_triple_exact}
use Rattle.triple_index.specs.declared.triple.IdTriple.{IdTriple}

module _ {K : Type 0} {R : K → K → Ordering} (o : IsTotalOrder R) where
  -- items in order, each once, are in order
  in_order : (xs : List K) → IsStrictlySortedBy R xs → IsSortedBy (λ a b. is_lt (R a b)) xs
  in_order xs s k d low high =
      ap is_lt (above o (get_or xs k d) (get_or xs (k + 1) d) (Less-from_sorted R xs k (k + 1) d s (omega arith) high))

  -- they stand to each item in rising order
  pub rising : (x : K) (xs : List K) → IsStrictlySortedBy R xs → IsNonDecreasingBy (λ y. ordering_index (R y x)) xs
  rising x xs s = searchable_from_sorted o (λ y. y) xs x (in_order xs s)

  -- an item that belongs at a place is not there yet
  absent_there : (x : K) (xs : List K) (i : ℕ) → IsPartitionPoint (λ y. R y x ≡ Less) (λ y. R y x ≡ Greater) xs i → Contains xs x → ⊥
  absent_there x xs i p c =
      let same : R (get_or xs c.0 x) x ≡ Equal = rw (c.2) (tied_itself o x) in
      ⊎_elim
      (λ (below : c.0 < i). let e : R (get_or xs c.0 x) x ≡ Less = p.0 c.0 x (omega arith) below in cc)
      (λ (over : i ≤ c.0). let e : R (get_or xs c.0 x) x ≡ Greater = p.1 c.0 x over c.1 in cc)
      (cases_lt c.0 i)

-- what is no higher than what is below is below
pub below_down : (a b : Ordering) → ordering_index a ≤ ordering_index b → is_lt b ≡ true → is_lt a ≡ true
below_down Less b h t = refl
below_down Equal Less h t = absurd (omega arith)
below_down Equal Equal h t = cc
below_down Equal Greater h t = cc
below_down Greater Less h t = absurd (omega arith)
below_down Greater Equal h t = cc
below_down Greater Greater h t = cc

-- what is no higher than what is not above is not above
pub not_above_down : (a b : Ordering) → ordering_index a ≤ ordering_index b → is_le b ≡ true → is_le a ≡ true
not_above_down Less b h t = refl
not_above_down Equal b h t = refl
not_above_down Greater Less h t = absurd (omega arith)
not_above_down Greater Equal h t = absurd (omega arith)
not_above_down Greater Greater h t = cc

-- in rising order, what stands below comes first
pub below_first : {X : Type 0} (to : X → Ordering) (xs : List X) → IsNonDecreasingBy (λ x. ordering_index (to x)) xs → IsPartitionedBy (λ x. is_lt (to x)) xs
below_first to xs up i j d a b = below_down (to (get_or xs i d)) (to (get_or xs j d)) (up i j d a b)

-- in rising order, what does not stand above comes first
pub not_above_first : {X : Type 0} (to : X → Ordering) (xs : List X) → IsNonDecreasingBy (λ x. ordering_index (to x)) xs → IsPartitionedBy (λ x. is_le (to x)) xs
not_above_first to xs up i j d a b = not_above_down (to (get_or xs i d)) (to (get_or xs j d)) (up i j d a b)

-- what a search finds says whether the triple is there
pub search_decides : (xs : List IdTriple) (x : IdTriple) (r : Result ℕ ℕ) → AreOrdered xs → IsSearchInRange r (length xs)
    → IfOk r (HoldsAt (λ y. id_triple_cmp y x ≡ Equal) xs) → IsBinarySearchResult (λ y. id_triple_cmp y x) xs r
    → is_ok r ≡ fits_one id_triple_eq xs x
search_decides xs x (Ok at) s b h p = sym (found_among id_triple_eq id_triple_exact xs x (at, b, id_triple_one _ _ (h x)))
search_decides xs x (Err at) s b h p =
    sym (false_from_ne_true (fits_one id_triple_eq xs x) (λ t. absent_there id_triple_cmp_total x xs at (p (rising id_triple_cmp_total x xs s))
    (is_found id_triple_eq id_triple_exact xs x t)))

-- a triple is equal to one of some exactly where it is among them
pub among_is : (xs : List IdTriple) (x : IdTriple) (r : Bool) → r ≡ fits_one id_triple_eq xs x → IsTrue r ↔ Contains xs x
among_is xs x r e = (λ t. is_found id_triple_eq id_triple_exact xs x (sym e ∙ t), λ c. e ∙ found_among id_triple_eq id_triple_exact xs x c)
