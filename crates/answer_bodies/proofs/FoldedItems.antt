-- What one list lacks of another, folded into it, gives the other.
use Rattle.std.proofs.Common.{◌≡◌, Contains, Bool, true, false, not, ◌&&◌, ◌||◌, List, [], ◌∷◌, ◌++◌, refl, sym, ap, subst, ◌∙◌}
use Rattle.std.proofs.lemmas.Bool.{true≢false, or_left}
use Rattle.std.proofs.lemmas.Cmp.{eq_by_cmp_equiv}
use Rattle.std.proofs.lemmas.List.Folds.{list_any-append}
use Rattle.std.proofs.lemmas.List.Kept.{IsStrictlySortedBy-filter, IsStrictlySortedBy-dedup}
use Rattle.std.proofs.lemmas.List.Sorted.{list_any-IsPermutation}
use Rattle.std.proofs.lemmas.Map.Lookups.{CmpEqualImpliesEq, btree_set_from_contains}
use Rattle.std.proofs.lemmas.Map.Views.{list_any-from_Contains, tells_apart}
use Rattle.std.specs.Cmp.{IsTotalOrder}
use Rattle.std.specs.List.{dedup}
use Rattle.std.specs.List.Sorted.{IsPermutation, IsSorted, IsStrictlySortedBy}
use Rattle.std.specs.Ordering.{eq_by_cmp}
use Rattle.std.specs.declared.cmp.Ordering.{Ordering}
use Rattle.m3_terms.specs.Inserted.{inserted}
use Rattle.m3_terms.specs.InsertedLaws.{inserted_sorted}
use Rattle.answer_bodies.specs.Lists.{is_among, without, with_all}
use Rattle.answer_bodies.proofs.AmongItems.{among_without, among_with_all}
use Rattle.answer_bodies.proofs.DedupKeeps.{any_dedup}

-- what is after and not before, or is before but not in what is before and not after, is after
after_alone : (before after : Bool) → (not before && after || not (not after && before) && before) ≡ after
after_alone true true = refl
after_alone true false = refl
after_alone false true = refl
after_alone false false = refl

-- nothing is both after and not before, and before and not after
both_alone : (before after : Bool) → (not before && after) ≡ true → (not after && before) ≡ true → ⊥
both_alone true after h k = true≢false (sym h)
both_alone false true h k = true≢false (sym k)
both_alone false false h k = true≢false (sym h)

-- nothing is both there and not there
never_both : (b : Bool) → (not b && b) ≡ false
never_both true = refl
never_both false = refl

module _ {K : Type 0} {R : K → K → Ordering} (o : IsTotalOrder R) (exact : CmpEqualImpliesEq R) where
  -- items in order stay so as more are put in their places
  pub sorted_with_all : (xs ys : List K) → IsStrictlySortedBy R xs → IsStrictlySortedBy R (with_all R xs ys)
  sorted_with_all xs [] s = s
  sorted_with_all xs (y ∷ ys) s = sorted_with_all (inserted R y xs) ys (inserted_sorted o exact y xs s)

  -- and as some are taken away
  pub sorted_without : (xs ys : List K) → IsStrictlySortedBy R xs → IsStrictlySortedBy R (without R xs ys)
  sorted_without xs ys s = IsStrictlySortedBy-filter R (λ item. not (is_among R ys item)) xs s

  -- two lists in order that have the same items are one
  same_items : (xs ys : List K) → IsStrictlySortedBy R xs → IsStrictlySortedBy R ys → ((q : K) → is_among R xs q ≡ is_among R ys q) → xs ≡ ys
  same_items xs ys s t same = btree_set_from_contains o (record { keys = xs }) (record { keys = ys }) s t same exact

  -- what one list lacks of another, folded into it, gives the other
  pub folded_back : (before after : List K) → IsStrictlySortedBy R before → IsStrictlySortedBy R after
      → with_all R (without R before (without R before after)) (without R after before) ≡ after
  folded_back before after s t =
      let gone = without R before after in
      let new = without R after before in
      same_items (with_all R (without R before gone) new) after (sorted_with_all (without R before gone) new (sorted_without before gone s)) t (λ q.
      among_with_all exact (without R before gone) new q
      ∙ (λ i. among_without exact after before q i || among_without exact before gone q i)
      ∙ ap (λ b. not (is_among R before q) && is_among R after q || not b && is_among R before q) (among_without exact before after q)
      ∙ after_alone (is_among R before q) (is_among R after q))

  -- items behind others, sorted and without doubles, are put in their places
  sorted_is_folded : {E : K → K → Bool} → ((x y : K) → E x y ≡ eq_by_cmp R x y) → (xs ys sorted : List K) → IsStrictlySortedBy R xs
      → IsPermutation (ys ++ xs) sorted → IsSorted R sorted → dedup E sorted ≡ with_all R xs ys
  sorted_is_folded {E} ties xs ys sorted s moved rises =
      same_items (dedup E sorted) (with_all R xs ys) (IsStrictlySortedBy-dedup o ties sorted rises) (sorted_with_all xs ys s) (λ q.
      any_dedup (λ x y same. tells_apart exact x y (sym (ties x y) ∙ same)) (eq_by_cmp R q) sorted
      ∙ sym (list_any-IsPermutation (eq_by_cmp R q) (ys ++ xs) sorted moved)
      ∙ list_any-append (eq_by_cmp R q) ys xs
      ∙ sym (among_with_all exact xs ys q))

  -- what stays of items behind copies of what is added, sorted and without doubles
  pub refolded : {E : K → K → Bool} → ((x y : K) → E x y ≡ eq_by_cmp R x y) → (old gone added copies held kept all sorted new : List K) → IsStrictlySortedBy R old
      → copies ≡ added → held ≡ old → kept ≡ without R held gone → all ≡ copies ++ kept → IsPermutation all sorted → IsSorted R sorted → new ≡ dedup E sorted
      → new ≡ with_all R (without R old gone) added
  refolded ties old gone added copies held kept all sorted new s copied was stays behind moved rises once =
      let rest = stays ∙ ap (λ l. without R l gone) was in
      let moves = subst (λ l. IsPermutation l sorted) (behind ∙ (λ i. copied i ++ rest i)) moved in
      once ∙ sorted_is_folded ties (without R old gone) added sorted (sorted_without old gone s) moves rises

  -- an item is among a list in which it stands
  in_is_among : (xs : List K) (q : K) → Contains xs q → is_among R xs q ≡ true
  in_is_among xs q c = list_any-from_Contains (eq_by_cmp_equiv o) q xs c

  -- nothing is among what each of two lists has and the other lacks
  pub without_apart : (before after : List K) (q : K) → Contains (without R after before) q → Contains (without R before after) q → ⊥
  without_apart before after q new gone =
      both_alone (is_among R before q) (is_among R after q)
      (sym (among_without exact after before q) ∙ in_is_among (without R after before) q new)
      (sym (among_without exact before after q) ∙ in_is_among (without R before after) q gone)

  -- a list that nothing is among is empty
  none_among : (xs : List K) → ((q : K) → is_among R xs q ≡ false) → xs ≡ []
  none_among [] none = refl
  none_among (x ∷ xs) none = absurd (true≢false (sym (or_left (eq_by_cmp R x x) (is_among R xs x) ((eq_by_cmp_equiv o).refl x)) ∙ none x))

  -- a list lacks nothing of itself
  pub without_itself : (xs : List K) → without R xs xs ≡ []
  without_itself xs = none_among (without R xs xs) (λ q. among_without exact xs xs q ∙ never_both (is_among R xs q))

  -- a list lacks nothing of what is empty
  pub without_none : (xs : List K) → without R xs [] ≡ xs
  without_none [] = refl
  without_none (x ∷ xs) = ap (λ l. x ∷ l) (without_none xs)

  -- two lists in order that lack nothing of each other are one
  pub equal_lists : (before after : List K) → IsStrictlySortedBy R before → IsStrictlySortedBy R after
      → without R after before ≡ [] → without R before after ≡ [] → before ≡ after
  equal_lists before after s t new gone =
      sym (without_none before)
      ∙ sym (λ i. with_all R (without R before (gone i)) (new i))
      ∙ folded_back before after s t
