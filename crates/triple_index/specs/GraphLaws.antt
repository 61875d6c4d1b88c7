-- What an update makes of a graph: it stays in order, and what it contains.
use Rattle.std.proofs.Common.{◌≡◌, ◌<◌, ◌⊎◌, ◌↔◌, Bool, true, false, not, List, [], ◌∷◌, filter, Contains, refl, sym, ap, subst, ◌∙◌, inl, inr, arith}
use Rattle.std.proofs.lemmas.Bool.{not-true, or_cases, or_right}
use Rattle.std.proofs.lemmas.Cmp.{tied_itself}
use Rattle.std.proofs.lemmas.List.Elements.{All-contains, filter_passes}
use Rattle.std.proofs.lemmas.List.Kept.{IsStrictlySortedBy-filter}
use Rattle.std.proofs.lemmas.Map.Keys.{sorted_tail}
use Rattle.std.proofs.lemmas.Map.Lookups.{CmpEqualImpliesEq}
use Rattle.std.proofs.lemmas.Map.Views.{All-after_first}
use Rattle.std.specs.Bool.{Decides}
use Rattle.std.specs.Cmp.{IsTotalOrder}
use Rattle.std.specs.List.Sorted.{IsStrictlySortedBy}
use Rattle.std.specs.declared.cmp.Ordering.{Ordering}
use Rattle.std.specs.declared.cmp.Ordering.TheVariants.{Less}
use mathlib.Core.Logic.{⊎_elim}
use Rattle.m3_terms.specs.Inserted.{inserted}
use Rattle.m3_terms.specs.InsertedLaws.{inserted_sorted, inserted_has, cons_cases, head_in, tail_in, was_there, is_kept}
use Rattle.triple_index.specs.Graphs.{fits_one, without, with_all, after}

-- nothing is in the empty list
pub none_in : {X : Type 0} (q : X) → Contains [] q → ⊥
none_in q c = let below : c.0 < 0 = c.1 in omega arith

module _ {K : Type 0} (E : K → K → Bool) (exact : (a b : K) → Decides (E a b) (a ≡ b)) where
  -- what is in a list is equal to one of its items
  pub found_among : (xs : List K) (q : K) → Contains xs q → fits_one E xs q ≡ true
  found_among [] q c = absurd (none_in q c)
  found_among (x ∷ xs) q c = ⊎_elim
      (λ head. rw ((exact x q).1 head) refl)
      (λ rest. or_right (E x q) (fits_one E xs q) (found_among xs q rest))
      (cons_cases x xs q c)

  -- and what is equal to one of its items is in the list
  pub is_found : (xs : List K) (q : K) → fits_one E xs q ≡ true → Contains xs q
  is_found [] q h = absurd (let e : false ≡ true = h in cc)
  is_found (x ∷ xs) q h = ⊎_elim
      (λ same. subst (Contains (x ∷ xs)) ((exact x q).0 same) (head_in x xs))
      (λ later. tail_in x xs q (is_found xs q later))
      (or_cases (E x q) (fits_one E xs q) h)

module _ {K : Type 0} {R : K → K → Ordering} (o : IsTotalOrder R) where
  -- no item is below itself
  pub not_below_itself : (x : K) → R x x ≡ Less → ⊥
  not_below_itself x h = let e = tied_itself o x in cc

  -- no item is below another and above it
  not_below_both : (x y : K) → R x y ≡ Less → R y x ≡ Less → ⊥
  not_below_both x y h k = not_below_itself x (o.trans x y x h k)

  -- two items that stand first in order, each among the other's list, are one
  heads_one : (x y : K) (xs ys : List K) → IsStrictlySortedBy R (x ∷ xs) → IsStrictlySortedBy R (y ∷ ys)
      → (x ≡ y) ⊎ Contains xs y → (y ≡ x) ⊎ Contains ys x → x ≡ y
  heads_one x y xs ys s t (inl e) f = e
  heads_one x y xs ys s t (inr c) (inl e) = sym e
  heads_one x y xs ys s t (inr c) (inr d) = absurd (not_below_both x y
      (All-contains (λ z. R x z ≡ Less) xs y (All-after_first R x xs s) c)
      (All-contains (λ z. R y z ≡ Less) ys x (All-after_first R y ys t) d))

  -- what is behind the first of items in order, and is in a list with that head, is behind the head
  behind : (x : K) (xs ys : List K) (q : K) → IsStrictlySortedBy R (x ∷ xs) → Contains xs q → (x ≡ q) ⊎ Contains ys q → Contains ys q
  behind x xs ys q s c (inl e) = absurd (not_below_itself x
      (subst (λ z. R x z ≡ Less) (sym e) (All-contains (λ z. R x z ≡ Less) xs q (All-after_first R x xs s) c)))
  behind x xs ys q s c (inr d) = d

  -- two lists in order that have the same items are one
  pub sorted_same : (xs ys : List K) → IsStrictlySortedBy R xs → IsStrictlySortedBy R ys
      → ((q : K) → Contains xs q → Contains ys q) → ((q : K) → Contains ys q → Contains xs q) → xs ≡ ys
  sorted_same [] [] s t f g = refl
  sorted_same [] (y ∷ ys) s t f g = absurd (none_in y (g y (head_in y ys)))
  sorted_same (x ∷ xs) [] s t f g = absurd (none_in x (f x (head_in x xs)))
  sorted_same (x ∷ xs) (y ∷ ys) s t f g =
      let e : x ≡ y = heads_one x y xs ys s t (cons_cases x xs y (g y (head_in y ys))) (cons_cases y ys x (f x (head_in x xs))) in
      let rest : xs ≡ ys = sorted_same xs ys (sorted_tail R x xs s) (sorted_tail R y ys t)
      (λ q c. behind x xs ys q s c (⊎_elim (λ k. inl (e ∙ k)) inr (cons_cases y ys q (f q (tail_in x xs q c)))))
      (λ q c. behind y ys xs q t c (⊎_elim (λ k. inl (sym e ∙ k)) inr (cons_cases x xs q (g q (tail_in y ys q c))))) in
      λ i. e i ∷ rest i

module _ {P K : Type 0} (fits : P → K → Bool) where
  -- what is left without patterns was there and fits none of them
  pub without_has : (graph : List K) (patterns : List P) (q : K)
      → Contains (without fits graph patterns) q ↔ (Contains graph q × (fits_one fits patterns q ≡ false))
  without_has graph patterns q =
      let test : K → Bool = λ item. not (fits_one fits patterns item) in (
        λ c. (was_there test graph q c, not-true (fits_one fits patterns q) (All-contains (λ x. test x ≡ true) (filter test graph) q (filter_passes test graph) c)),
        λ h. is_kept test graph q (ap not h.1) h.0,
      )

module _ {K : Type 0} {R : K → K → Ordering} (o : IsTotalOrder R) (exact : CmpEqualImpliesEq R) where
  -- a graph stays in order as items are put in their places
  pub with_all_ordered : (graph items : List K) → IsStrictlySortedBy R graph → IsStrictlySortedBy R (with_all R graph items)
  with_all_ordered graph [] s = s
  with_all_ordered graph (x ∷ xs) s = with_all_ordered (inserted R x graph) xs (inserted_sorted o exact x graph s)

  -- it has what it had and the items
  pub with_all_has : (graph items : List K) (q : K) → Contains (with_all R graph items) q ↔ (Contains graph q ⊎ Contains items q)
  with_all_has graph [] q = (inl, λ s. ⊎_elim (λ c. c) (λ none. absurd (none_in q none)) s)
  with_all_has graph (x ∷ xs) q =
      let there = inserted_has exact x graph q in
      let later = with_all_has (inserted R x graph) xs q in (
        λ c. ⊎_elim
            (λ new. ⊎_elim (λ e. inr (subst (Contains (x ∷ xs)) (sym e) (head_in x xs))) inl (there.0 new))
            (λ rest. inr (tail_in x xs q rest))
            (later.0 c),
        λ s. later.1 (⊎_elim
            (λ old. inl (there.1 (inr old)))
            (λ item. ⊎_elim (λ e. inl (there.1 (inl (sym e)))) inr (cons_cases x xs q item))
            s),
      )

  -- a graph stays in order as it is updated
  pub after_ordered : {P : Type 0} (fits : P → K → Bool) (graph : List K) (remove : List P) (insert : List K)
      → IsStrictlySortedBy R graph → IsStrictlySortedBy R (after R fits graph remove insert)
  after_ordered fits graph remove insert s =
      with_all_ordered (without fits graph remove) insert (IsStrictlySortedBy-filter R (λ item. not (fits_one fits remove item)) graph s)

  -- after an update the graph has what is inserted, and what it had that fits nothing removed
  pub after_has : {P : Type 0} (fits : P → K → Bool) (graph : List K) (remove : List P) (insert : List K) (q : K)
      → Contains (after R fits graph remove insert) q ↔ ((Contains graph q × (fits_one fits remove q ≡ false)) ⊎ Contains insert q)
  after_has fits graph remove insert q =
      let all = with_all_has (without fits graph remove) insert q in
      let kept = without_has fits graph remove q in
      (λ c. ⊎_elim (λ old. inl (kept.0 old)) inr (all.0 c), λ s. all.1 (⊎_elim (λ old. inl (kept.1 old)) inr s))
