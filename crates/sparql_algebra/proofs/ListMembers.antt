-- What is in lists that are made from others, and how long lists of the same members are.
use Rattle.std.proofs.Common.{◌≡◌, ◌∙◌, ◌↔◌, ◌⊎◌, inl, inr, Bool, true, false, cond, ◌||◌, List, [], ◌∷◌, length, filter, filter_map, flat_map, fold, Contains, Option, None, Some, refl, sym, ap, subst}
use Rattle.std.proofs.lemmas.Bool.{or_right}
use Rattle.std.proofs.lemmas.Cmp.{tied_itself}
use Rattle.std.proofs.lemmas.List.Elements.{All-contains, filter_passes, Contains-append_left, Contains-append_right, Contains-append_cases}
use Rattle.std.proofs.lemmas.Map.Keys.{IsDistinct-cons, sorted_tail}
use Rattle.std.proofs.lemmas.Map.Lookups.{CmpEqualImpliesEq}
use Rattle.std.proofs.lemmas.Map.Made.{is_member-Decides, length-from_same_keys}
use Rattle.std.proofs.lemmas.Map.Views.{All-after_first}
use Rattle.std.specs.Bool.{Decides, one_answer}
use Rattle.std.specs.Cmp.{IsEquivalence, IsTotalOrder}
use Rattle.std.specs.List.{AllByRecursion, IsDistinct, cons_option, list_any}
use Rattle.std.specs.List.Sorted.{IsStrictlySortedBy}
use Rattle.std.specs.Set.{unique_keys, is_member}
use Rattle.std.specs.declared.cmp.Ordering.{Ordering}
use Rattle.std.specs.declared.cmp.Ordering.TheVariants.{Less}
use mathlib.Core.Logic.{⊎_elim}
use Rattle.m3_terms.specs.Inserted.{inserted}
use Rattle.m3_terms.specs.InsertedLaws.{inserted_sorted, inserted_has, cons_cases, head_in, tail_in, was_there, is_kept}
use Rattle.sparql_algebra.proofs.Gathered.{none_in}

module _ {X Y : Type 0} (f : X → Option Y) where
  -- what is mapped comes from an item
  from_at : (x : X) (xs : List X) (y : Y) (found : Option Y) → f x ≡ found → (Contains (filter_map f xs) y → (z : X) × Contains xs z × (f z ≡ Some y))
      → Contains (cons_option found (filter_map f xs)) y → (z : X) × Contains (x ∷ xs) z × (f z ≡ Some y)
  from_at x xs y None h later c = let rest = later c in (rest.0, tail_in x xs rest.0 rest.1, rest.2)
  from_at x xs y (Some z) h later c = ⊎_elim
      (λ (e : z ≡ y). (x, head_in x xs, h ∙ ap Some e))
      (λ d. let rest = later d in (rest.0, tail_in x xs rest.0 rest.1, rest.2))
      (cons_cases z (filter_map f xs) y c)

  pub mapped_from : (xs : List X) (y : Y) → Contains (filter_map f xs) y → (x : X) × Contains xs x × (f x ≡ Some y)
  mapped_from [] y c = absurd (none_in y c)
  mapped_from (x ∷ xs) y c = from_at x xs y (f x) refl (mapped_from xs y) c

  tail_mapped : (found : Option Y) (ys : List Y) (y : Y) → Contains ys y → Contains (cons_option found ys) y
  tail_mapped None ys y d = d
  tail_mapped (Some w) ys y d = tail_in w ys y d

  -- and what comes from an item is mapped
  pub mapped_to : (xs : List X) (x : X) (y : Y) → Contains xs x → f x ≡ Some y → Contains (filter_map f xs) y
  mapped_to [] x y c h = absurd (none_in x c)
  mapped_to (z ∷ xs) x y c h = ⊎_elim
      (λ (e : z ≡ x). subst (λ o. Contains (cons_option o (filter_map f xs)) y) (sym h ∙ ap f (sym e)) (head_in y (filter_map f xs)))
      (λ rest. tail_mapped (f z) (filter_map f xs) y (mapped_to xs x y rest h))
      (cons_cases z xs x c)

module _ {X Y : Type 0} (f : X → List Y) where
  -- what is in the lists of all items is in the list of one
  pub spread_from : (xs : List X) (y : Y) → Contains (flat_map f xs) y → (x : X) × Contains xs x × Contains (f x) y
  spread_from [] y c = absurd (none_in y c)
  spread_from (x ∷ xs) y c = ⊎_elim
      (λ here. (x, head_in x xs, here))
      (λ later. let rest = spread_from xs y later in (rest.0, tail_in x xs rest.0 rest.1, rest.2))
      (Contains-append_cases (f x) (flat_map f xs) y c)

  -- and the other way round
  pub spread_to : (xs : List X) (x : X) (y : Y) → Contains xs x → Contains (f x) y → Contains (flat_map f xs) y
  spread_to [] x y c d = absurd (none_in x c)
  spread_to (z ∷ xs) x y c d = ⊎_elim
      (λ (e : z ≡ x). Contains-append_left (f z) (flat_map f xs) y (subst (λ w. Contains (f w) y) (sym e) d))
      (λ rest. Contains-append_right (f z) (flat_map f xs) y (spread_to xs x y rest d))
      (cons_cases z xs x c)

module _ {X : Type 0} (test : X → Bool) where
  -- what a test keeps was there and passes, and the other way round
  pub kept : (xs : List X) (q : X) → Contains (filter test xs) q ↔ (Contains xs q × (test q ≡ true))
  kept xs q = (
    λ c. (was_there test xs q c, All-contains (λ x. test x ≡ true) (filter test xs) q (filter_passes test xs) c),
    λ h. is_kept test xs q h.1 h.0,
  )

  any_at : (x : X) (xs : List X) (b : Bool) → test x ≡ b → (list_any test xs ≡ true → (q : X) × Contains xs q × (test q ≡ true))
      → (b || list_any test xs) ≡ true → (q : X) × Contains (x ∷ xs) q × (test q ≡ true)
  any_at x xs true h later e = (x, head_in x xs, h)
  any_at x xs false h later e = let rest = later e in (rest.0, tail_in x xs rest.0 rest.1, rest.2)

  -- where a test holds of any item, there is one
  pub any_from : (xs : List X) → list_any test xs ≡ true → (q : X) × Contains xs q × (test q ≡ true)
  any_from [] e = absurd (cc)
  any_from (x ∷ xs) e = any_at x xs (test x) refl (any_from xs) e

  -- and the other way round
  pub any_to : (xs : List X) (q : X) → Contains xs q → test q ≡ true → list_any test xs ≡ true
  any_to [] q c h = absurd (none_in q c)
  any_to (x ∷ xs) q c h = ⊎_elim
      (λ (e : x ≡ q). let here : test x ≡ true = ap test e ∙ h in rw here refl)
      (λ rest. or_right (test x) (list_any test xs) (any_to xs q rest h))
      (cons_cases x xs q c)

-- what holds of whatever is in a list holds of each of its items
pub all_in : {X : Type 0} (P : X → Type 0) (xs : List X) → ((q : X) → Contains xs q → P q) → AllByRecursion P xs
all_in P [] h = tt
all_in P (x ∷ xs) h = (h x (head_in x xs), all_in P xs (λ q c. h q (tail_in x xs q c)))

-- and the other way round
pub in_all_of : {X : Type 0} (P : X → Type 0) (xs : List X) (q : X) → AllByRecursion P xs → Contains xs q → P q
in_all_of P [] q a c = absurd (none_in q c)
in_all_of P (x ∷ xs) q a c = ⊎_elim (λ (e : x ≡ q). subst P e a.0) (λ rest. in_all_of P xs q a.1 rest) (cons_cases x xs q c)

module _ {K : Type 0} {E : K → K → Bool} (laws : IsEquivalence E) (exact : (a b : K) → Decides (E a b) (a ≡ b)) where
  once_from_at : (x : K) (xs : List K) (q : K) (b : Bool) → (Contains (unique_keys E xs) q → Contains xs q)
      → Contains (cond b (unique_keys E xs) (x ∷ unique_keys E xs)) q → Contains (x ∷ xs) q
  once_from_at x xs q true later c = tail_in x xs q (later c)
  once_from_at x xs q false later c = ⊎_elim
      (λ (e : x ≡ q). subst (Contains (x ∷ xs)) e (head_in x xs))
      (λ d. tail_in x xs q (later d))
      (cons_cases x (unique_keys E xs) q c)

  once_from : (xs : List K) (q : K) → Contains (unique_keys E xs) q → Contains xs q
  once_from [] q c = c
  once_from (x ∷ xs) q c = once_from_at x xs q (is_member E xs x) (once_from xs q) c

  once_to_at : (x : K) (xs : List K) (q : K) (b : Bool) → is_member E xs x ≡ b → ((p : K) → Contains xs p → Contains (unique_keys E xs) p)
      → (x ≡ q) ⊎ Contains xs q → Contains (cond b (unique_keys E xs) (x ∷ unique_keys E xs)) q
  once_to_at x xs q true h later (inl e) = later q (subst (Contains xs) e ((is_member-Decides exact xs x).0 h))
  once_to_at x xs q true h later (inr c) = later q c
  once_to_at x xs q false h later (inl e) = subst (Contains (x ∷ unique_keys E xs)) e (head_in x (unique_keys E xs))
  once_to_at x xs q false h later (inr c) = tail_in x (unique_keys E xs) q (later q c)

  once_to : (xs : List K) (q : K) → Contains xs q → Contains (unique_keys E xs) q
  once_to [] q c = c
  once_to (x ∷ xs) q c = once_to_at x xs q (is_member E xs x) refl (once_to xs) (cons_cases x xs q c)

  -- without doubles a list has what it had
  pub once_has : (xs : List K) (q : K) → Contains (unique_keys E xs) q ↔ Contains xs q
  once_has xs q = (once_from xs q, once_to xs q)

  differs : (x y : K) (xs : List K) (b : Bool) → E x y ≡ b → is_member E xs x ≡ false → Contains xs y → E x y ≡ false
  differs x y xs true h absent c =
      let there : is_member E xs x ≡ true = (is_member-Decides exact xs x).1 (subst (Contains xs) (sym ((exact x y).0 h)) c) in absurd (cc)
  differs x y xs false h absent c = h

  once_distinct_at : (x : K) (xs : List K) (b : Bool) → is_member E xs x ≡ b → IsDistinct E (unique_keys E xs)
      → IsDistinct E (cond b (unique_keys E xs) (x ∷ unique_keys E xs))
  once_distinct_at x xs true h rest = rest
  once_distinct_at x xs false h rest =
      IsDistinct-cons E x (unique_keys E xs) (all_in (λ y. E x y ≡ false) (unique_keys E xs) (λ y c. differs x y xs (E x y) refl h (once_from xs y c))) rest

  nil_distinct : IsDistinct E []
  unfolding IsDistinct
  nil_distinct = tt

  -- and no two equal items
  pub once_distinct : (xs : List K) → IsDistinct E (unique_keys E xs)
  once_distinct [] = nil_distinct
  once_distinct (x ∷ xs) = once_distinct_at x xs (is_member E xs x) refl (once_distinct xs)

  -- two lists without doubles that have the same members are as long
  pub same_length : (xs ys : List K) → IsDistinct E xs → IsDistinct E ys → ((q : K) → Contains xs q ↔ Contains ys q) → length xs ≡ length ys
  same_length xs ys d e same = length-from_same_keys laws xs ys d e (λ q. one_answer {P = Contains xs q} (is_member E xs q) (is_member E ys q)
      (is_member-Decides exact xs q)
      (λ h. (same q).1 ((is_member-Decides exact ys q).0 h), λ c. (is_member-Decides exact ys q).1 ((same q).0 c)))

module _ {K : Type 0} {R : K → K → Ordering} (o : IsTotalOrder R) where
  not_below_itself : (x : K) → R x x ≡ Less → ⊥
  not_below_itself x h = let e = tied_itself o x in cc

  heads_one : (x y : K) (xs ys : List K) → IsStrictlySortedBy R (x ∷ xs) → IsStrictlySortedBy R (y ∷ ys)
      → (x ≡ y) ⊎ Contains xs y → (y ≡ x) ⊎ Contains ys x → x ≡ y
  heads_one x y xs ys s t (inl e) f = e
  heads_one x y xs ys s t (inr c) (inl e) = sym e
  heads_one x y xs ys s t (inr c) (inr d) = absurd (not_below_itself x (o.trans x y x
      (All-contains (λ z. R x z ≡ Less) xs y (All-after_first R x xs s) c)
      (All-contains (λ z. R y z ≡ Less) ys x (All-after_first R y ys t) d)))

  behind : (x : K) (xs ys : List K) (q : K) → IsStrictlySortedBy R (x ∷ xs) → Contains xs q → (x ≡ q) ⊎ Contains ys q → Contains ys q
  behind x xs ys q s c (inl e) = absurd (not_below_itself x
      (subst (λ z. R x z ≡ Less) (sym e) (All-contains (λ z. R x z ≡ Less) xs q (All-after_first R x xs s) c)))
  behind x xs ys q s c (inr d) = d

  -- two lists in order that have the same members are one
  pub sorted_one : (xs ys : List K) → IsStrictlySortedBy R xs → IsStrictlySortedBy R ys → ((q : K) → Contains xs q ↔ Contains ys q) → xs ≡ ys
  sorted_one [] [] s t same = refl
  sorted_one [] (y ∷ ys) s t same = absurd (none_in y ((same y).1 (head_in y ys)))
  sorted_one (x ∷ xs) [] s t same = absurd (none_in x ((same x).0 (head_in x xs)))
  sorted_one (x ∷ xs) (y ∷ ys) s t same =
      let e : x ≡ y = heads_one x y xs ys s t (cons_cases x xs y ((same y).1 (head_in y ys))) (cons_cases y ys x ((same x).0 (head_in x xs))) in
      let rest : xs ≡ ys = sorted_one xs ys (sorted_tail R x xs s) (sorted_tail R y ys t) (λ q. (
        λ c. behind x xs ys q s c (⊎_elim (λ (k : y ≡ q). inl (e ∙ k)) inr (cons_cases y ys q ((same q).0 (tail_in x xs q c)))),
        λ c. behind y ys xs q t c (⊎_elim (λ (k : x ≡ q). inl (sym e ∙ k)) inr (cons_cases x xs q ((same q).1 (tail_in y ys q c)))),
      )) in
      λ i. e i ∷ rest i

  module _ {X : Type 0} (exact : CmpEqualImpliesEq R) (f : X → K) where
    -- keys of items that are put in their places one by one
    abbrev pub put_all : List K → List X → List K
    put_all keys xs = fold (λ ks x. inserted R (f x) ks) keys xs

    -- they stay in order
    pub put_all_sorted : (keys : List K) (xs : List X) → IsStrictlySortedBy R keys → IsStrictlySortedBy R (put_all keys xs)
    put_all_sorted keys [] s = s
    put_all_sorted keys (x ∷ xs) s = put_all_sorted (inserted R (f x) keys) xs (inserted_sorted o exact (f x) keys s)

    -- they are those that were there and those of the items
    pub put_all_from : (keys : List K) (xs : List X) (q : K) → Contains (put_all keys xs) q → Contains keys q ⊎ ((x : X) × Contains xs x × (q ≡ f x))
    put_all_from keys [] q c = inl c
    put_all_from keys (x ∷ xs) q c = ⊎_elim
        (λ here. ⊎_elim (λ (e : q ≡ f x). inr (x, head_in x xs, e)) (λ old. inl old) ((inserted_has exact (f x) keys q).0 here))
        (λ later. inr (later.0, tail_in x xs later.0 later.1, later.2))
        (put_all_from (inserted R (f x) keys) xs q c)

    put_all_keeps : (keys : List K) (xs : List X) (q : K) → Contains keys q → Contains (put_all keys xs) q
    put_all_keeps keys [] q c = c
    put_all_keeps keys (x ∷ xs) q c = put_all_keeps (inserted R (f x) keys) xs q ((inserted_has exact (f x) keys q).1 (inr c))

    pub put_all_to : (keys : List K) (xs : List X) (x : X) (q : K) → Contains xs x → q ≡ f x → Contains (put_all keys xs) q
    put_all_to keys [] x q c e = absurd (none_in x c)
    put_all_to keys (y ∷ xs) x q c e = ⊎_elim
        (λ (one : y ≡ x). put_all_keeps (inserted R (f y) keys) xs q ((inserted_has exact (f y) keys q).1 (inl (e ∙ ap f (sym one)))))
        (λ rest. put_all_to (inserted R (f y) keys) xs x q rest e)
        (cons_cases y xs x c)
