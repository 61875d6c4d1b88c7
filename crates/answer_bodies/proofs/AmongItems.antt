-- What is among items once some are taken away or put in their places.
use Rattle.std.proofs.Common.{◌≡◌, Bool, true, false, not, ◌&&◌, ◌||◌, List, [], ◌∷◌, filter, refl, sym, ap, ◌∙◌}
use Rattle.std.proofs.lemmas.List.Elements.{All-append, All-cons, All-filter, All-from_recursion, recursion_from_All}
use Rattle.std.proofs.lemmas.List.Folds.{list_any-append}
use Rattle.std.proofs.lemmas.Map.Lookups.{CmpEqualImpliesEq}
use Rattle.std.proofs.lemmas.Map.Views.{any-filter_same, tells_apart}
use Rattle.std.specs.List.{All, AllByRecursion}
use Rattle.std.specs.Ordering.{eq_by_cmp, is_lt, is_eq, is_gt}
use Rattle.std.specs.declared.cmp.Ordering.{Ordering}
use Rattle.std.specs.declared.cmp.Ordering.TheVariants.{Less, Equal, Greater}
use Rattle.m3_terms.specs.Inserted.{inserted}
use Rattle.answer_bodies.specs.Lists.{is_among, without, with_all}

-- below, tied or above: what is among all but the tied, or is tied, is among all or tied
three_parts : (r : Ordering) (among : Bool) → (is_lt r && among || (is_eq r || is_gt r && among)) ≡ (is_eq r || among)
three_parts Less true = refl
three_parts Less false = refl
three_parts Equal among = refl
three_parts Greater among = refl

-- of three tests, the second may be tried first
regrouped : (a b c : Bool) → (a || (b || c)) ≡ (b || a || c)
regrouped true true c = refl
regrouped true false c = refl
regrouped false true c = refl
regrouped false false c = refl

module _ {K : Type 0} {R : K → K → Ordering} (exact : CmpEqualImpliesEq R) where
  -- among the items that pass a test is what is among them all and passes it
  among_kept : (test : K → Bool) (xs : List K) (q : K) → is_among R (filter test xs) q ≡ (test q && is_among R xs q)
  among_kept test xs q = any-filter_same (eq_by_cmp R q) test (test q) (λ k tied. ap test (sym (tells_apart exact q k tied))) xs

  -- among the items that are not among others is what is among them and not among the others
  pub among_without : (xs ys : List K) (q : K) → is_among R (without R xs ys) q ≡ (not (is_among R ys q) && is_among R xs q)
  among_without xs ys q = among_kept (λ item. not (is_among R ys item)) xs q

  -- among items with one more put in its place is what is tied with it or among them
  among_inserted : (k : K) (xs : List K) (q : K) → is_among R (inserted R k xs) q ≡ (eq_by_cmp R q k || is_among R xs q)
  among_inserted k xs q =
      list_any-append (eq_by_cmp R q) (filter (λ y. is_lt (R y k)) xs) (k ∷ filter (λ y. is_gt (R y k)) xs)
      ∙ (λ i. among_kept (λ y. is_lt (R y k)) xs q i || (eq_by_cmp R q k || among_kept (λ y. is_gt (R y k)) xs q i))
      ∙ three_parts (R q k) (is_among R xs q)

  -- among items with more put in their places is what is among those or among them
  pub among_with_all : (xs ys : List K) (q : K) → is_among R (with_all R xs ys) q ≡ (is_among R ys q || is_among R xs q)
  among_with_all xs [] q = refl
  among_with_all xs (y ∷ ys) q =
      among_with_all (inserted R y xs) ys q
      ∙ ap (λ b. is_among R ys q || b) (among_inserted y xs q)
      ∙ regrouped (is_among R ys q) (eq_by_cmp R q y) (is_among R xs q)

module _ {K : Type 0} (R : K → K → Ordering) (P : K → Type 0) where
  -- what holds of each item holds of each that stays
  pub all_without : (xs ys : List K) → AllByRecursion P xs → AllByRecursion P (without R xs ys)
  all_without xs ys all = recursion_from_All P (without R xs ys) (All-filter (λ item. not (is_among R ys item)) P xs (All-from_recursion P xs all))

  -- of each once one more is put in its place
  all_inserted : (k : K) (xs : List K) → P k → All P xs → All P (inserted R k xs)
  all_inserted k xs h all =
      let low = filter (λ y. is_lt (R y k)) xs in
      let high = filter (λ y. is_gt (R y k)) xs in
      All-append P low (k ∷ high) (All-filter (λ y. is_lt (R y k)) P xs all) (All-cons P k high h (All-filter (λ y. is_gt (R y k)) P xs all))

  -- and once more of them are
  all_put : (xs ys : List K) → All P xs → AllByRecursion P ys → All P (with_all R xs ys)
  all_put xs [] all more = all
  all_put xs (y ∷ ys) all more = all_put (inserted R y xs) ys (all_inserted y xs more.0 all) more.1

  -- what holds of each item and of each that is put in its place holds of them all
  pub all_with_all : (xs ys : List K) → AllByRecursion P xs → AllByRecursion P ys → AllByRecursion P (with_all R xs ys)
  all_with_all xs ys all more = recursion_from_All P (with_all R xs ys) (all_put xs ys (All-from_recursion P xs all) more)
