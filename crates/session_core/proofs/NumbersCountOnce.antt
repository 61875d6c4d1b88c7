-- Each triple of numbers means one triple of the graph, so both are counted alike.
use Rattle.std.proofs.Common.{◌≡◌, ℕ, ◌+◌, true, false, List, [], ◌∷◌, filter, filter_map, sum_by, Contains, Option, Some, None, IsSome, refl, ap, subst, ◌∙◌, arith}
use Rattle.std.proofs.lemmas.List.Elements.{All-contains}
use Rattle.std.proofs.lemmas.List.Sums.{sum_by-cons, sum_by-append}
use Rattle.std.proofs.lemmas.Map.Keys.{sorted_tail}
use Rattle.std.proofs.lemmas.Map.Lookups.{CmpEqualImpliesEq}
use Rattle.std.proofs.lemmas.Map.Views.{All-after_first}
use Rattle.std.specs.Cmp.{IsTotalOrder}
use Rattle.std.specs.List.{cons_option}
use Rattle.std.specs.List.Sorted.{IsStrictlySortedBy}
use Rattle.std.specs.Ordering.{is_lt, is_gt}
use Rattle.std.specs.declared.cmp.Ordering.{Ordering}
use Rattle.std.specs.declared.cmp.Ordering.TheVariants.{Less, Equal, Greater}
use mathlib.Core.Logic.{⊎_elim}
use Rattle.m3_terms.specs.Inserted.{inserted}
use Rattle.m3_terms.specs.InsertedLaws.{inserted_has, cons_cases, head_in, tail_in}
use Rattle.triple_index.specs.Graphs.{with_all}
use Rattle.triple_index.specs.GraphLaws.{none_in, not_below_itself}

pub nil_ordered : {K : Type 0} (R : K → K → Ordering) → IsStrictlySortedBy R []
unfolding IsStrictlySortedBy
nil_ordered R = tt

module _ {X Y : Type 0} (f : X → Option Y) where
  -- what is mapped comes from an item
  from_at : (x : X) (xs : List X) (y : Y) (found : Option Y) → f x ≡ found → (Contains (filter_map f xs) y → (z : X) × Contains xs z × (f z ≡ Some y))
      → Contains (cons_option found (filter_map f xs)) y → (z : X) × Contains (x ∷ xs) z × (f z ≡ Some y)
  from_at x xs y None h later c = let rest = later c in (rest.0, tail_in x xs rest.0 rest.1, rest.2)
  from_at x xs y (Some z) h later c = ⊎_elim
      (λ (e : z ≡ y). (x, head_in x xs, h ∙ ap Some e))
      (λ d. let rest = later d in (rest.0, tail_in x xs rest.0 rest.1, rest.2))
      (cons_cases z (filter_map f xs) y c)

  pub mapped_from : (xs : List X) (y : Y) → Contains (filter_map f xs) y → (x : X) × Contains xs x × (f x ≡ Some y)
  mapped_from [] y c = absurd (none_in y c)
  mapped_from (x ∷ xs) y c = from_at x xs y (f x) refl (mapped_from xs y) c

  -- and what comes from an item is mapped
  pub mapped_to : (xs : List X) (x : X) (y : Y) → Contains xs x → f x ≡ Some y → Contains (filter_map f xs) y
  mapped_to [] x y c h = absurd (none_in x c)
  mapped_to (z ∷ xs) x y c h = ⊎_elim (λ e. head z e) (λ rest. tail (f z) (mapped_to xs x y rest h)) (cons_cases z xs x c)
    where
      tail : (found : Option Y) → Contains (filter_map f xs) y → Contains (cons_option found (filter_map f xs)) y
      tail None d = d
      tail (Some w) d = tail_in w (filter_map f xs) y d

      head : (w : X) → w ≡ x → Contains (cons_option (f w) (filter_map f xs)) y
      head w e =
          let is : f w ≡ Some y = ap f e ∙ h in
          rw is (head_in y (filter_map f xs))

module _ {K : Type 0} {R : K → K → Ordering} (o : IsTotalOrder R) (exact : CmpEqualImpliesEq R) (f : K → ℕ) where
  -- items other than a key are those below it and those above it
  sides_at : (k x : K) (xs : List K) (r : Ordering) → R x k ≡ r → (Contains (x ∷ xs) k → ⊥)
      → sum_by f (filter (λ y. is_lt (R y k)) xs) + sum_by f (filter (λ y. is_gt (R y k)) xs) ≡ sum_by f xs
      → sum_by f (filter (λ y. is_lt (R y k)) (x ∷ xs)) + sum_by f (filter (λ y. is_gt (R y k)) (x ∷ xs)) ≡ sum_by f (x ∷ xs)
  sides_at k x xs Less h n rest = rw h (omega (arith, rest, sum_by-cons f x xs, sum_by-cons f x (filter (λ y. is_lt (R y k)) xs)))
  sides_at k x xs Equal h n rest = absurd (n (subst (Contains (x ∷ xs)) (exact x k h) (head_in x xs)))
  sides_at k x xs Greater h n rest = rw h (omega (arith, rest, sum_by-cons f x xs, sum_by-cons f x (filter (λ y. is_gt (R y k)) xs)))

  sides : (k : K) (xs : List K) → (Contains xs k → ⊥)
      → sum_by f (filter (λ y. is_lt (R y k)) xs) + sum_by f (filter (λ y. is_gt (R y k)) xs) ≡ sum_by f xs
  sides k [] n = refl
  sides k (x ∷ xs) n = sides_at k x xs (R x k) refl n (sides k xs (λ c. n (tail_in x xs k c)))

  -- a key that is not there counts beside those that are
  inserted_sum : (k : K) (xs : List K) → (Contains xs k → ⊥) → sum_by f (inserted R k xs) ≡ f k + sum_by f xs
  inserted_sum k xs n =
      let low = filter (λ y. is_lt (R y k)) xs in
      let high = filter (λ y. is_gt (R y k)) xs in
      sum_by-append f low (k ∷ high) ∙ omega (arith, sum_by-cons f k high, sides k xs n)

  module _ {T : Type 0} {S : T → T → Ordering} (p : IsTotalOrder S) (m : T → Option K) (g : T → ℕ) (same : (t : T) (k : K) → m t ≡ Some k → g t ≡ f k)
      (one : (s t : T) (k : K) → m s ≡ Some k → m t ≡ Some k → s ≡ t) where
    -- what later items are mapped to is not there where the first one's key is inserted
    apart : (t : T) (ts : List T) (keys : List K) → IsStrictlySortedBy S (t ∷ ts) → ((u : T) (l : K) → Contains (t ∷ ts) u → m u ≡ Some l → Contains keys l → ⊥)
        → (k : K) → m t ≡ Some k → (u : T) (l : K) → Contains ts u → m u ≡ Some l → Contains (inserted R k keys) l → ⊥
    apart t ts keys s new k h u l c d there = ⊎_elim
        (λ (e : l ≡ k).
        let both : u ≡ t = one u t k (d ∙ ap Some e) h in
        let above : S t u ≡ Less = All-contains (λ z. S t z ≡ Less) ts u (All-after_first S t ts s) c in
        not_below_itself p t (subst (λ z. S t z ≡ Less) both above))
        (new u l (tail_in t ts u c) d)
        ((inserted_has exact k keys l).0 there)

    mapped_at : (t : T) (ts : List T) (keys : List K) (found : Option K) → m t ≡ found → IsSome (m t)
        → ((k : K) → m t ≡ Some k → Contains keys k → ⊥)
        → ((k : K) → m t ≡ Some k → sum_by f (with_all R (inserted R k keys) (filter_map m ts)) ≡ sum_by f (inserted R k keys) + sum_by g ts)
        → sum_by f (with_all R keys (cons_option found (filter_map m ts))) ≡ sum_by f keys + sum_by g (t ∷ ts)
    mapped_at t ts keys None h some new rest = absurd (let e : false ≡ true = subst (λ x. IsSome x) h some in cc)
    mapped_at t ts keys (Some k) h some new rest = omega (arith, rest k h, inserted_sum k keys (new k h), same t k h, sum_by-cons g t ts)

    -- items in order that are mapped to keys, each to another one that is not there, count beside those that are
    pub mapped_sum : (keys : List K) (ts : List T) → IsStrictlySortedBy S ts → ((t : T) → Contains ts t → IsSome (m t))
        → ((t : T) (k : K) → Contains ts t → m t ≡ Some k → Contains keys k → ⊥)
        → sum_by f (with_all R keys (filter_map m ts)) ≡ sum_by f keys + sum_by g ts
    mapped_sum keys [] s named new = omega arith
    mapped_sum keys (t ∷ ts) s named new = mapped_at t ts keys (m t) refl (named t (head_in t ts)) (λ k h. new t k (head_in t ts) h)
        (λ k h. mapped_sum (inserted R k keys) ts (sorted_tail S t ts s) (λ u c. named u (tail_in t ts u c)) (apart t ts keys s new k h))
