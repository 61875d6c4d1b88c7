-- What a test keeps of a list and of its permutation are permutations.
use Rattle.std.proofs.Common.{ℕ, zero, suc, ◌<◌, Bool, true, false, cond, List, [], ◌∷◌, length, get_or, set, filter, arith}
use Rattle.std.proofs.lemmas.List.Sorted.{IsPermutation-refl, IsPermutation-trans, IsPermutation-cons, IsPermutation-middle, IsPermutation-keeps}
use Rattle.std.specs.List.{swap}
use Rattle.std.specs.List.Sorted.{IsPermutation}

module _ {X : Type 0} (test : X → Bool) where
  under_by : (b : Bool) (x : X) (us vs : List X) → IsPermutation us vs → IsPermutation (cond b (x ∷ us) us) (cond b (x ∷ vs) vs)
  under_by true x us vs p = IsPermutation-cons x us vs p
  under_by false x us vs p = p

  -- one more item before both
  under : (x : X) (us vs : List X) → IsPermutation (filter test us) (filter test vs) → IsPermutation (filter test (x ∷ us)) (filter test (x ∷ vs))
  under x us vs p = under_by (test x) x (filter test us) (filter test vs) p

  flipped_by : (a b : Bool) (x y : X) (l : List X)
      → IsPermutation (cond a (x ∷ cond b (y ∷ l) l) (cond b (y ∷ l) l)) (cond b (y ∷ cond a (x ∷ l) l) (cond a (x ∷ l) l))
  flipped_by true true x y l = IsPermutation-middle (x ∷ []) y l
  flipped_by true false x y l = IsPermutation-refl (x ∷ l)
  flipped_by false true x y l = IsPermutation-refl (y ∷ l)
  flipped_by false false x y l = IsPermutation-refl l

  -- the first two items change places
  flipped : (x y : X) (l : List X) → IsPermutation (filter test (x ∷ y ∷ l)) (filter test (y ∷ x ∷ l))
  flipped x y l = flipped_by (test x) (test y) x y (filter test l)

  -- the first item and a later one change places
  first_moved : (v : X) (l : List X) (k : ℕ) (d : X) → k < length l → IsPermutation (filter test (v ∷ l)) (filter test (get_or l k d ∷ set l k v))
  first_moved v [] k d h = absurd (omega arith)
  first_moved v (x ∷ l) zero d h = flipped v x l
  first_moved v (x ∷ l) (suc k) d h =
      IsPermutation-trans _ _ _ (flipped v x l)
      (IsPermutation-trans _ _ _ (under x (v ∷ l) (get_or l k d ∷ set l k v) (first_moved v l k d (omega arith))) (flipped x (get_or l k d) (set l k v)))

  -- any two items change places
  exchanged : (l : List X) (i j : ℕ) (d : X) → i < length l → j < length l
      → IsPermutation (filter test l) (filter test (set (set l i (get_or l j d)) j (get_or l i d)))
  exchanged [] i j d h k = absurd (omega arith)
  exchanged (x ∷ l) zero zero d h k = IsPermutation-refl (filter test (x ∷ l))
  exchanged (x ∷ l) zero (suc j) d h k = first_moved x l j d (omega arith)
  exchanged (x ∷ l) (suc i) zero d h k = first_moved x l i d (omega arith)
  exchanged (x ∷ l) (suc i) (suc j) d h k = under x l (set (set l i (get_or l j d)) j (get_or l i d)) (exchanged l i j d (omega arith) (omega arith))

  swapped : (l : List X) (i j : ℕ) → i < length l → j < length l → IsPermutation (filter test l) (filter test (swap l i j))
  swapped [] i j h k = absurd (omega arith)
  swapped (x ∷ l) i j h k = exchanged (x ∷ l) i j x h k

  -- what a test keeps of a list, and of its permutation
  pub IsPermutation-filter : (xs ys : List X) → IsPermutation xs ys → IsPermutation (filter test xs) (filter test ys)
  IsPermutation-filter xs ys p = IsPermutation-keeps xs (λ l. IsPermutation (filter test xs) (filter test l)) (IsPermutation-refl (filter test xs))
      (λ l i j low high h. IsPermutation-trans _ _ _ h (swapped l i j low high)) ys p
