-- What insertion of a key into ordered keys does, and that it is std's.
use Rattle.std.proofs.Common.{◌≡◌, ◌<◌, ◌⊎◌, ◌↔◌, Bool, true, false, cond, List, [], ◌∷◌, filter, Contains, refl, sym, ap, subst, ◌∙◌, inl, inr, arith}
use Rattle.std.proofs.lemmas.List.Elements.{All-contains, All-contains_itself, All-filter, Contains-append_left, Contains-append_right, Contains-append_cases, Contains-push, Contains-push_cases}
use Rattle.std.specs.List.{AllByRecursion, list_any}
use Rattle.std.specs.List.Sorted.{IsStrictlySortedBy}
use Rattle.std.specs.BTreeMap.{is_at}
use Rattle.std.specs.BTreeSet.{insert_key}
use Rattle.std.specs.Ordering.{ordering_reverse, is_lt, is_gt, match_ordering}
use Rattle.std.specs.declared.cmp.Ordering.{Ordering}
use Rattle.std.specs.declared.cmp.Ordering.TheVariants.{Less, Equal, Greater}
use Rattle.std.specs.Cmp.{IsTotalOrder}
use Rattle.std.proofs.lemmas.Cmp.{tied_itself, eq_by_cmp_equiv}
use Rattle.std.proofs.lemmas.Map.Views.{list_any-from_Contains}
use Rattle.std.proofs.lemmas.Map.Lookups.{CmpEqualImpliesEq}
use mathlib.Core.Bool.{true≢false}
use mathlib.Core.Logic.{⊎_elim}
use Rattle.m3_terms.specs.Inserted.{inserted}

module _ {K : Type 0} {R : K → K → Ordering} (o : IsTotalOrder R) where
  -- a key below another has it above
  pub above : (x y : K) → R x y ≡ Less → R y x ≡ Greater
  above x y h = o.antisymm y x ∙ ap ordering_reverse h

  -- a key above another has it below
  pub below : (x y : K) → R x y ≡ Greater → R y x ≡ Less
  below x y h = o.antisymm y x ∙ ap ordering_reverse h

  -- what is above a key is above each key below it
  pub all_above : (k x : K) (xs : List K) → R k x ≡ Less → AllByRecursion (λ y. R x y ≡ Less) xs → AllByRecursion (λ y. R k y ≡ Less) xs
  all_above k x [] h t = tt
  all_above k x (y ∷ ys) h t = (o.trans k x y h t.0, all_above k x ys h t.1)

  -- of keys above a key, none is below it
  pub none_below : (k : K) (xs : List K) → AllByRecursion (λ y. R k y ≡ Less) xs → filter (λ y. is_lt (R y k)) xs ≡ []
  none_below k [] t = refl
  none_below k (y ∷ ys) t = rw (above k y t.0) (none_below k ys t.1)

  -- of keys above a key, all are above it
  pub each_above : (k : K) (xs : List K) → AllByRecursion (λ y. R k y ≡ Less) xs → filter (λ y. is_gt (R y k)) xs ≡ xs
  each_above k [] t = refl
  each_above k (y ∷ ys) t = rw (above k y t.0) (ap (λ l. y ∷ l) (each_above k ys t.1))

  -- a key that stands first stays there, once
  inserted_first : (x : K) (xs : List K) → AllByRecursion (λ y. R x y ≡ Less) xs → inserted R x (x ∷ xs) ≡ x ∷ xs
  inserted_first x xs t = rw (tied_itself o x, none_below x xs t, each_above x xs t) refl

  -- the same for one key more, by how the new key compares with it
  inserted_at : (exact : CmpEqualImpliesEq R) (k x : K) (xs : List K) (r : Ordering) → R k x ≡ r → AllByRecursion (λ y. R x y ≡ Less) xs
      → inserted R k xs ≡ insert_key R xs k → inserted R k (x ∷ xs) ≡ match_ordering r (k ∷ x ∷ xs) (x ∷ xs) (x ∷ insert_key R xs k)
  inserted_at exact k x xs Less h t e = rw (above k x h, none_below k xs (all_above k x xs h t), each_above k xs (all_above k x xs h t)) refl
  inserted_at exact k x xs Equal h t e = subst (λ z. inserted R z (x ∷ xs) ≡ x ∷ xs) (sym (exact k x h)) (inserted_first x xs t)
  inserted_at exact k x xs Greater h t e = rw (below k x h) (ap (λ l. x ∷ l) e)

  -- those below a key, the key and those above it are what std's insertion makes of keys in order
  pub inserted_is : CmpEqualImpliesEq R → (k : K) (xs : List K) → IsStrictlySortedBy R xs → inserted R k xs ≡ insert_key R xs k
  unfolding IsStrictlySortedBy
  inserted_is exact k [] s = refl
  inserted_is exact k (x ∷ xs) s = inserted_at exact k x xs (R k x) refl s.0 (inserted_is exact k xs s.1)

  -- what holds of each key holds of each after one step of the insertion
  all_at : (P : K → Type 0) (k y : K) (ys : List K) → P k → AllByRecursion P (y ∷ ys) → AllByRecursion P (insert_key R ys k) → (r : Ordering)
      → AllByRecursion P (match_ordering r (k ∷ y ∷ ys) (y ∷ ys) (y ∷ insert_key R ys k))
  all_at P k y ys h t e Less = (h, t)
  all_at P k y ys h t e Equal = t
  all_at P k y ys h t e Greater = (t.0, e)

  -- what holds of some keys and of one more holds of each once it is inserted
  all_inserted : (P : K → Type 0) (k : K) (xs : List K) → P k → AllByRecursion P xs → AllByRecursion P (insert_key R xs k)
  all_inserted P k [] h t = (h, tt)
  all_inserted P k (y ∷ ys) h t = all_at P k y ys h t (all_inserted P k ys h t.1) (R k y)

  -- one step of the insertion keeps the order
  sorted_at : (k x : K) (xs : List K) (r : Ordering) → R k x ≡ r → IsStrictlySortedBy R (x ∷ xs) → IsStrictlySortedBy R (insert_key R xs k)
      → IsStrictlySortedBy R (match_ordering r (k ∷ x ∷ xs) (x ∷ xs) (x ∷ insert_key R xs k))
  unfolding IsStrictlySortedBy
  sorted_at k x xs Less h s e = ((h, all_above k x xs h s.0), s)
  sorted_at k x xs Equal h s e = s
  sorted_at k x xs Greater h s e = (all_inserted (λ y. R x y ≡ Less) k xs (below k x h) s.0, e)

  -- std's insertion keeps keys in order, each once
  sorted_insert_key : (k : K) (xs : List K) → IsStrictlySortedBy R xs → IsStrictlySortedBy R (insert_key R xs k)
  unfolding IsStrictlySortedBy
  sorted_insert_key k [] s = (tt, tt)
  sorted_insert_key k (x ∷ xs) s = sorted_at k x xs (R k x) refl s (sorted_insert_key k xs s.1)

  -- keys in order, each once, stay so when one is inserted
  pub inserted_sorted : CmpEqualImpliesEq R → (k : K) (xs : List K) → IsStrictlySortedBy R xs → IsStrictlySortedBy R (inserted R k xs)
  inserted_sorted exact k xs s = subst (IsStrictlySortedBy R) (sym (inserted_is exact k xs s)) (sorted_insert_key k xs s)

  -- a key below all is none of them
  absent_above : (k : K) (xs : List K) → AllByRecursion (λ y. R k y ≡ Less) xs → list_any (is_at (R k)) xs ≡ false
  absent_above k [] t = refl
  absent_above k (y ∷ ys) t = rw (t.0) (absent_above k ys t.1)

  -- one step of the insertion of a key that is there changes nothing
  found_at : (k x : K) (xs : List K) (r : Ordering) → R k x ≡ r → AllByRecursion (λ y. R x y ≡ Less) xs → list_any (is_at (R k)) (x ∷ xs) ≡ true
      → (list_any (is_at (R k)) xs ≡ true → insert_key R xs k ≡ xs)
      → match_ordering r (k ∷ x ∷ xs) (x ∷ xs) (x ∷ insert_key R xs k) ≡ x ∷ xs
  found_at k x xs Less h t f e =
      let absent : list_any (is_at (R k)) (x ∷ xs) ≡ false = rw h (absent_above k xs (all_above k x xs h t)) in
      absurd (true≢false (sym f ∙ absent))
  found_at k x xs Equal h t f e = refl
  found_at k x xs Greater h t f e =
      let further : list_any (is_at (R k)) (x ∷ xs) ≡ list_any (is_at (R k)) xs = rw h refl in
      ap (λ l. x ∷ l) (e (sym further ∙ f))

  -- std's insertion of a key that is there changes nothing
  found_stays : (k : K) (xs : List K) → IsStrictlySortedBy R xs → list_any (is_at (R k)) xs ≡ true → insert_key R xs k ≡ xs
  unfolding IsStrictlySortedBy
  found_stays k [] s f = absurd (true≢false (sym f))
  found_stays k (x ∷ xs) s f = found_at k x xs (R k x) refl s.0 f (found_stays k xs s.1)

  -- a key that is there already changes nothing when it is inserted
  pub inserted_stays : CmpEqualImpliesEq R → (k : K) (xs : List K) → IsStrictlySortedBy R xs → Contains xs k → inserted R k xs ≡ xs
  inserted_stays exact k xs s c = inserted_is exact k xs s ∙ found_stays k xs s (list_any-from_Contains (eq_by_cmp_equiv o) k xs c)

module _ {X : Type 0} where
  -- what is in a list with a head is the head or in the rest
  pub cons_cases : (x : X) (xs : List X) (q : X) → Contains (x ∷ xs) q → (x ≡ q) ⊎ Contains xs q
  cons_cases x xs q c = ⊎_elim
      (λ head. ⊎_elim (λ none. let below : none.0 < 0 = none.1 in absurd (omega arith)) inl (Contains-push_cases [] x q head))
      inr (Contains-append_cases (x ∷ []) xs q c)

  -- the head is in the list
  pub head_in : (x : X) (xs : List X) → Contains (x ∷ xs) x
  head_in x xs = Contains-append_left (x ∷ []) xs x (Contains-push [] x)

  -- what is in the rest is in the list
  pub tail_in : (x : X) (xs : List X) (q : X) → Contains xs q → Contains (x ∷ xs) q
  tail_in x xs q c = Contains-append_right (x ∷ []) xs q c

  -- what a test keeps was there
  pub was_there : (test : X → Bool) (xs : List X) (q : X) → Contains (filter test xs) q → Contains xs q
  was_there test xs q c = All-contains (Contains xs) (filter test xs) q (All-filter test (Contains xs) xs (All-contains_itself xs)) c

  -- a head that passes the test is kept
  head_kept : (test : X → Bool) (x : X) (xs : List X) (q : X) → x ≡ q → test q ≡ true → Contains (filter test (x ∷ xs)) q
  head_kept test x xs q e h =
      let passes : test x ≡ true = ap test e ∙ h in
      rw passes (subst (Contains (x ∷ filter test xs)) e (head_in x (filter test xs)))

  -- what is kept of the rest is kept, whether the head is or not
  rest_kept : (b : Bool) (x : X) (ys : List X) (q : X) → Contains ys q → Contains (cond b (x ∷ ys) ys) q
  rest_kept true x ys q c = tail_in x ys q c
  rest_kept false x ys q c = c

  -- what is there and passes the test is kept
  pub is_kept : (test : X → Bool) (xs : List X) (q : X) → test q ≡ true → Contains xs q → Contains (filter test xs) q
  is_kept test [] q h c = let below : c.0 < 0 = c.1 in absurd (omega arith)
  is_kept test (x ∷ xs) q h c = ⊎_elim
      (λ head. head_kept test x xs q head h)
      (λ rest. rest_kept (test x) x (filter test xs) q (is_kept test xs q h rest))
      (cons_cases x xs q c)

module _ {K : Type 0} {R : K → K → Ordering} (exact : CmpEqualImpliesEq R) where
  -- the new key is there
  key_in : (k : K) (xs : List K) → Contains (inserted R k xs) k
  key_in k xs = Contains-append_right (filter (λ y. is_lt (R y k)) xs) _ k (head_in k (filter (λ y. is_gt (R y k)) xs))

  -- what was there still is, by how it compares with the new key
  stays_in : (k : K) (xs : List K) (q : K) (r : Ordering) → R q k ≡ r → Contains xs q → Contains (inserted R k xs) q
  stays_in k xs q Less h c = Contains-append_left _ _ q (is_kept (λ y. is_lt (R y k)) xs q (ap is_lt h) c)
  stays_in k xs q Equal h c = subst (Contains (inserted R k xs)) (sym (exact q k h)) (key_in k xs)
  stays_in k xs q Greater h c =
      Contains-append_right (filter (λ y. is_lt (R y k)) xs) _ q
      (tail_in k _ q (is_kept (λ y. is_gt (R y k)) xs q (ap is_gt h) c))

  -- after an insertion the key is there, and otherwise what was there
  pub inserted_has : (k : K) (xs : List K) (q : K) → Contains (inserted R k xs) q ↔ ((q ≡ k) ⊎ Contains xs q)
  inserted_has k xs q = (
    λ c. ⊎_elim
        (λ low. inr (was_there (λ y. is_lt (R y k)) xs q low))
        (λ high. ⊎_elim (λ e. inl (sym e)) (λ rest. inr (was_there (λ y. is_gt (R y k)) xs q rest)) (cons_cases k _ q high))
        (Contains-append_cases (filter (λ y. is_lt (R y k)) xs) _ q c),
    λ s. ⊎_elim (λ e. subst (Contains (inserted R k xs)) (sym e) (key_in k xs)) (stays_in k xs q (R q k) refl) s,
  )
