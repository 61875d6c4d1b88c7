-- Lists in order, and doubles in them.
use Rattle.std.proofs.Common.{◌≡◌, ◌<◌, ◌+◌, ℕ, Bool, true, false, List, [], ◌∷◌, ◌++◌, length, get_or, take, refl, sym, ap, subst, ◌∙◌, arith}
use Rattle.std.proofs.lemmas.Cmp.{eq_by_cmp_equiv}
use Rattle.std.proofs.lemmas.List.Sorted.{IsPermutation-sym, list_any-IsPermutation}
use Rattle.std.proofs.lemmas.Map.Keys.{IsDistinct-from_sorted, IsDistinct-IsPermutation, IsDistinct-push, apart_from_distinct, sorted_from_all_adjacent}
use Rattle.std.proofs.lemmas.Map.Lookups.{CmpEqualImpliesEq, btree_set_from_contains}
use Rattle.std.proofs.lemmas.List.{take_more, length-take, get_or-take}
use Rattle.std.specs.BTreeMap.{is_at}
use Rattle.std.specs.Cmp.{IsTotalOrder, IsEquivalence}
use Rattle.std.specs.List.{AllAdjacentBelow, HoldsAt, IsDistinct, list_any}
use Rattle.std.specs.List.Sorted.{IsPermutation, IsSorted, IsStrictlySortedBy}
use Rattle.std.specs.Ordering.{eq_by_cmp, is_lt, is_eq, ordering_reverse}
use Rattle.std.specs.declared.cmp.Ordering.{Ordering}
use Rattle.std.specs.declared.cmp.Ordering.TheVariants.{Less, Equal, Greater}
use mathlib.Core.Bool.{true≢false}
use Rattle.answer_bodies.specs.Lists.{IsOrdered}

-- what is told less is less
lt_less : (r : Ordering) → true ≡ is_lt r → r ≡ Less
lt_less Less e = refl
lt_less Equal e = absurd (true≢false e)
lt_less Greater e = absurd (true≢false e)

-- what is less neither way is tied
neither_tied : (r : Ordering) → false ≡ is_lt r → is_lt (ordering_reverse r) ≡ false → is_eq r ≡ true
neither_tied Less f g = absurd (true≢false (sym f))
neither_tied Equal f g = refl
neither_tied Greater f g = absurd (true≢false g)

module _ {K : Type 0} {R : K → K → Ordering} (o : IsTotalOrder R) where
  -- a list whose neighbours rise is in order, each once
  pub rises : (ks : List K) → AllAdjacentBelow (λ x y. true ≡ is_lt (R x y)) ks (length ks) → IsStrictlySortedBy R ks
  unfolding IsStrictlySortedBy
  rises [] h = tt
  rises (k ∷ ks) h = sorted_from_all_adjacent o (k ∷ ks) k (λ i within. lt_less _ (h i k within))

  tied_at : (ks : List K) (d : K) → IsSorted R ks → (k : ℕ) → k + 1 < length ks → false ≡ is_lt (R (get_or ks k d) (get_or ks (k + 1) d))
      → ¬ (IsDistinct (eq_by_cmp R) ks)
  tied_at ks d sorted k within flat distinct =
      let x = get_or ks k d in
      let y = get_or ks (k + 1) d in
      let back : is_lt (ordering_reverse (R x y)) ≡ false = ap is_lt (sym (o.antisymm y x)) ∙ sorted k d (omega arith) within in
      true≢false (sym (neither_tied (R x y) flat back) ∙ apart_from_distinct (eq_by_cmp R) ks k (k + 1) d distinct (omega arith) within)

  -- a sorted list whose neighbours don't all rise has a double
  pub tied : (given ks : List K) → IsPermutation given ks → IsSorted R ks
      → (k : ℕ) × (k + 1 < length ks) × ((d : K) → false ≡ is_lt (R (get_or ks k d) (get_or ks (k + 1) d))) → ¬ (IsDistinct (eq_by_cmp R) given)
  tied given [] same sorted flat distinct = let within = flat.1 in absurd (omega (arith, within))
  tied given (x ∷ ks) same sorted flat distinct =
      tied_at (x ∷ ks) x sorted flat.0 flat.1 (flat.2 x)
      (IsDistinct-IsPermutation (eq_by_cmp R) (eq_by_cmp_equiv o).symm given (x ∷ ks) same distinct)

  -- an order without doubles is the order of items without doubles
  pub distinct_given : (given ks : List K) → IsOrdered R given ks → IsDistinct (eq_by_cmp R) given
  distinct_given given ks ordered =
      IsDistinct-IsPermutation (eq_by_cmp R) (eq_by_cmp_equiv o).symm ks given (IsPermutation-sym given ks ordered.same)
      (IsDistinct-from_sorted R ks ordered.rises)

  -- items have at most one order
  pub ordered_once : CmpEqualImpliesEq R → (given xs ys : List K) → IsOrdered R given xs → IsOrdered R given ys → xs ≡ ys
  ordered_once exact given xs ys a b =
      btree_set_from_contains o (record { keys = xs }) (record { keys = ys }) a.rises b.rises
      (λ q. sym (list_any-IsPermutation (is_at (R q)) given xs a.same) ∙ list_any-IsPermutation (is_at (R q)) given ys b.same) exact

module _ {K : Type 0} {E : K → K → Bool} (laws : IsEquivalence E) where
  -- whether a list has the same as an item, asked from either side
  pub any_flips : (x : K) (xs : List K) → list_any (λ y. E y x) xs ≡ list_any (E x) xs
  any_flips x xs = ap (λ f. list_any f xs) (λ i y. laws.symm y x i)

  -- a loop's step
  pub distinct_more : (xs : List K) (i : ℕ) (x : K) → i < length xs → x ≡ get_or xs i x → IsDistinct E (take i xs) → list_any (λ y. E y x) (take i xs) ≡ false
      → IsDistinct E (take (i + 1) xs)
  distinct_more xs i x within is h none =
      subst (IsDistinct E) (sym (take_more xs i x within))
      (subst (λ z. IsDistinct E (take i xs ++ z ∷ [])) is (IsDistinct-push laws (take i xs) x h (sym (any_flips x (take i xs)) ∙ none)))

-- no two of no items
pub none_distinct : {K : Type 0} (E : K → K → Bool) → IsDistinct E []
unfolding IsDistinct
none_distinct E = tt

-- an item that stands before its equal is doubled
pub doubled : {K : Type 0} (E : K → K → Bool) (xs : List K) (i : ℕ) (x : K) → i < length xs → x ≡ get_or xs i x
    → (k : ℕ) × (k < length (take i xs)) × HoldsAt (λ y. E y x ≡ true) (take i xs) k → ¬ (IsDistinct E xs)
doubled E xs i x within is early distinct =
    let k = early.0 in
    let short = length-take i xs in
    let low = early.1 in
    let before : k < i = omega (arith, short, low) in
    let same : E (get_or xs k x) (get_or xs i x) ≡ true =
    subst (λ z. E (get_or xs k x) z ≡ true) is (subst (λ z. E z x ≡ true) (get_or-take i xs k x before) (early.2 x))
    in
    true≢false (sym same ∙ apart_from_distinct E xs k i x distinct before within)
