-- The views of all seats after one seat's view changed.
use Rattle.std.proofs.Common.{◌≡◌, ◌≢◌, ◌⊎◌, ℕ, zero, suc, ◌<◌, Bool, true, false, List, [], ◌∷◌, ◌++◌, length, set, refl, ap, sym, ◌∙◌, subst, inl, inr, ⊎_elim, arith}
use mathlib.Core.Option.{some, some-injective, some-ne-none}
use lib.ListN.{get_elem?}
use Rattle.atomic_table.proofs.Lists.{at_set, set_else, at_longer}
use Rattle.space_turn.specs.declared.view.Entry.{Entry}
use Rattle.space_turn.specs.declared.view.View.{View}
use Rattle.space_turn.specs.Rule.{owned, Fits, At, EachFits, AreApart, NoneHolds, OneHolds}

module _ {A : Type 0} where
  pub set_at : (l : List A) (i : ℕ) (a b : A) → get_elem? l i ≡ some a → get_elem? (set l i b) i ≡ some b
  set_at [] i a b e = absurd (some-ne-none a (sym e))
  set_at (x ∷ xs) zero a b e = refl
  set_at (x ∷ xs) (suc i) a b e = set_at xs i a b e

  -- what stands in a list with one more at its end
  pub at_end : (l : List A) (a b : A) (j : ℕ) → get_elem? (l ++ a ∷ []) j ≡ some b → ((j < length l) × (get_elem? l j ≡ some b)) ⊎ ((j ≡ length l) × (a ≡ b))
  at_end [] a b zero e = inr (refl, some-injective a b e)
  at_end [] a b (suc j) e = absurd (some-ne-none b (sym e))
  at_end (x ∷ xs) a b zero e = inl (omega arith, e)
  at_end (x ∷ xs) a b (suc j) e = ⊎_elim (λ t. inl (let l = t.0 in omega arith, t.1)) (λ t. inr (ap suc t.0, t.1)) (at_end xs a b j e)

  pub same_at : (l : List A) (i : ℕ) (a b : A) → get_elem? l i ≡ some a → get_elem? l i ≡ some b → a ≡ b
  same_at l i a b p q = some-injective a b (sym p ∙ q)

pub not_both : {b : Bool} → b ≡ true → b ≡ false → ⊥
not_both p q = cc (p, q)

pub is_false : (b : Bool) → (b ≡ true → ⊥) → b ≡ false
is_false true never = absurd (never refl)
is_false false never = refl

module _ {C X : Type 0} where
  pub each_set : (root : X) (history : List (Entry C)) (views : List (View C X)) (id : ℕ) (w : View C X)
      → (w.live ≡ true → Fits root history w)
      → ((j : ℕ) (u : View C X) → j ≢ id → At views j u → u.live ≡ true → Fits root history u)
      → EachFits root history (set views id w)
  each_set root history views id w own others j u found live =
      ⊎_elim (λ t. subst (λ (x : View C X). x.live ≡ true → Fits root history x) t.1 own live) (λ t. others j u t.0 t.1 live) (at_set views id j w u found)

  -- each number that w owns was owned by v, which is not spent
  abbrev pub Within : View C X → View C X → Type 0
  Within w v = w.live ≡ true → (v.live ≡ true) × ((a : ℕ) → (c : ℕ) × (owned w a ≡ owned v c))

  pub within_same : (w v : View C X) → v.live ≡ true → w.number ≡ v.number → w.stride ≡ v.stride → Within w v
  within_same w v live number stride _ = (live, λ a. (a, cc (number, stride)))

  pub apart_set : (views : List (View C X)) (id : ℕ) (v w : View C X) → AreApart views → At views id v → Within w v → AreApart (set views id w)
  apart_set views id v w apart here within i j x y other at_x at_y live_x live_y a b same =
      ⊎_elim
      (λ s. ⊎_elim
      (λ t. other (s.0 ∙ sym t.0))
      (λ t. let in_v = within (ap (λ (u : View C X). u.live) s.1 ∙ live_x) in let c = in_v.1 a in
      apart id j v y (λ e. t.0 (sym e)) here t.1 in_v.0 live_y c.0 b (sym c.1 ∙ (ap (λ (u : View C X). owned u a) s.1 ∙ same)))
      (at_set views id j w y at_y))
      (λ s. ⊎_elim
      (λ t. let in_v = within (ap (λ (u : View C X). u.live) t.1 ∙ live_y) in let c = in_v.1 b in
      apart i id x v s.0 s.1 here live_x in_v.0 a c.0 (same ∙ (sym (ap (λ (u : View C X). owned u b) t.1) ∙ c.1)))
      (λ t. apart i j x y other s.1 t.1 live_x live_y a b same)
      (at_set views id j w y at_y))
      (at_set views id i w x at_x)

  -- one seat more
  pub apart_more : (views : List (View C X)) (r : View C X) → AreApart views
      → ((j : ℕ) (u : View C X) → At views j u → u.live ≡ true → (a b : ℕ) → owned u a ≢ owned r b)
      → AreApart (views ++ r ∷ [])
  apart_more views r apart new i j x y other at_x at_y live_x live_y a b same =
      ⊎_elim
      (λ s. ⊎_elim
      (λ t. apart i j x y other s.1 t.1 live_x live_y a b same)
      (λ t. new i x s.1 live_x a b (same ∙ sym (ap (λ (u : View C X). owned u b) t.1)))
      (at_end views r y j at_y))
      (λ s. ⊎_elim
      (λ t. new j y t.1 live_y b a (sym same ∙ sym (ap (λ (u : View C X). owned u a) s.1)))
      (λ t. other (s.0 ∙ sym t.0))
      (at_end views r y j at_y))
      (at_end views r x i at_x)

  pub each_more : (root : X) (history : List (Entry C)) (views : List (View C X)) (r : View C X) → EachFits root history views → Fits root history r → EachFits root history (views ++ r ∷ [])
  each_more root history views r each new j u found live =
      ⊎_elim (λ t. each j u t.1 live) (λ t. subst (λ (x : View C X). Fits root history x) t.1 new) (at_end views r u j found)

  pub none_set : (views : List (View C X)) (id : ℕ) (w : View C X) → NoneHolds views → w.holds ≡ false → NoneHolds (set views id w)
  none_set views id w none free j u found =
      ⊎_elim (λ t. sym (ap (λ (x : View C X). x.holds) t.1) ∙ free) (λ t. none j u t.1) (at_set views id j w u found)

  pub none_more : (views : List (View C X)) (r : View C X) → NoneHolds views → r.holds ≡ false → NoneHolds (views ++ r ∷ [])
  none_more views r none free j u found =
      ⊎_elim (λ t. none j u t.1) (λ t. sym (ap (λ (x : View C X). x.holds) t.1) ∙ free) (at_end views r u j found)

  pub one_set : (history : List (Entry C)) (views : List (View C X)) (id : ℕ) (v w : View C X) → OneHolds history views → At views id v → v.holds ≡ false → w.holds ≡ false
      → OneHolds history (set views id w)
  one_set history views id v w one here free free' =
      let holder = one.0 in let u = one.1 in
      let other : holder ≢ id = λ e. not_both (one.3) (ap (λ (x : View C X). x.holds) (same_at views id u v (subst (λ (k : ℕ). At views k u) e one.2) here) ∙ free) in (
        holder,
        u,
        set_else views id holder w other ∙ one.2,
        one.3,
        one.4,
        (λ j x found holds.
            ⊎_elim (λ t. absurd (not_both holds (sym (ap (λ (y : View C X). y.holds) t.1) ∙ free'))) (λ t. one.5 j x t.1 holds) (at_set views id j w x found)),
      )

  pub one_more : (history : List (Entry C)) (views : List (View C X)) (r : View C X) → OneHolds history views → r.holds ≡ false → OneHolds history (views ++ r ∷ [])
  one_more history views r one free = (
    one.0,
    one.1,
    at_longer views (r ∷ []) one.0 one.1 one.2,
    one.3,
    one.4,
    (λ j x found holds.
        ⊎_elim (λ t. one.5 j x t.1 holds) (λ t. absurd (not_both holds (sym (ap (λ (y : View C X). y.holds) t.1) ∙ free))) (at_end views r x j found)),
  )

  -- a seat takes the turn that none held
  pub one_now : (history : List (Entry C)) (views : List (View C X)) (id : ℕ) (v w : View C X) → NoneHolds views → At views id v → w.holds ≡ true → w.kept ≡ history
      → OneHolds history (set views id w)
  one_now history views id v w none here holds kept = (
    id,
    w,
    set_at views id v w here,
    holds,
    kept,
    (λ j x found held. ⊎_elim (λ t. t.0) (λ t. absurd (not_both held (none j x t.1))) (at_set views id j w x found)),
  )

  -- the seat that holds the turn keeps the history
  pub holder_keeps : (history : List (Entry C)) (views : List (View C X)) (id : ℕ) (v : View C X) → OneHolds history views → At views id v → v.holds ≡ true → v.kept ≡ history
  holder_keeps history views id v one here holds =
      let e = one.5 id v here holds in
      ap (λ (x : View C X). x.kept) (same_at views id v one.1 here (subst (λ (k : ℕ). At views k one.1) (sym e) one.2)) ∙ one.4

  -- and once it gives the turn back none holds it
  pub none_after : (history : List (Entry C)) (views : List (View C X)) (id : ℕ) (v w : View C X) → OneHolds history views → At views id v → v.holds ≡ true → w.holds ≡ false
      → NoneHolds (set views id w)
  none_after history views id v w one here holds free j x found =
      ⊎_elim
      (λ t. sym (ap (λ (y : View C X). y.holds) t.1) ∙ free)
      (λ t. is_false x.holds (λ held. t.0 (one.5 j x t.1 held ∙ sym (one.5 id v here holds))))
      (at_set views id j w x found)
