-- Merges gathered into a list of distinct rows: of one left row with others, and of all left rows.
use Rattle.std.proofs.Common.{◌≡◌, ◌∙◌, ◌⊎◌, inl, inr, ℕ, ◌+◌, ◌<◌, ◌≤◌, Bool, true, false, List, [], length, take, get_or, Contains, Option, None, Some, refl, sym, ap, subst}
use Rattle.sparql_algebra.specs.declared.mapping.Binding.{Binding}
use Rattle.sparql_algebra.specs.Merged.{IsJoined, IsAlone, IsLeftJoined}
use Rattle.sparql_algebra.specs.TermSolutions.{id_var, IdCompatible, id_merge}
use Rattle.sparql_algebra.specs.RowSets.{AreExactly, IsOfOr, IsOfOrPassing, IsOfOrLeft, IsPassingWith, IsPassingMerge, TellsPassing}
use Rattle.sparql_algebra.specs.Near.{AreNear}
use Rattle.sparql_algebra.proofs.Gathered.{gained, as_well, as_result, taken, in_all, item_in, none_in}

module _ (left : List Binding) (Passing : List Binding → Type 0) where
  -- a merge with one of some right rows is one with any of more
  pub passing_more : (P Q : List Binding → Type 0) → ((q : List Binding) → P q → Q q) → (r : List Binding) → IsPassingWith left P Passing r → IsPassingWith left Q Passing r
  passing_more P Q f r m = record { right = m.right; in_right = f m.right m.in_right; compatible = m.compatible; merges = m.merges; passes = m.passes }

  -- where there is no passing merge at all, a left row is alone
  pub no_passing : (Right : List Binding → Type 0) → IsAlone id_var Right Passing left → (r : List Binding) → IsPassingWith left Right Passing r → ⊥
  no_passing Right alone r m = alone m.right m.in_right m.compatible (subst Passing m.merges m.passes)

  module _ (others : List (List Binding)) (i : ℕ) (x : List Binding) (h : i < length others) (is : x ≡ get_or others i x) where
    more : (q : List Binding) → Contains (take i others) q → Contains (take (i + 1) others) q
    more q c = (taken others i x h q).1 (inl c)

    last : Contains (take (i + 1) others) x
    last = (taken others i x h x).1 (inr (sym is))

    -- a merge with the next right row or those before
    next_passing : (row : List Binding) → IdCompatible left x → row ≡ id_merge left x → Passing row → (r : List Binding)
        → IsPassingWith left (Contains (take (i + 1) others)) Passing r → IsPassingWith left (Contains (take i others)) Passing r ⊎ (row ≡ r)
    next_passing row agree is_merge pass r m = elim ((taken others i x h m.right).0 m.in_right) [
      | inl c ↦ inl (record { right = m.right; in_right = c; compatible = m.compatible; merges = m.merges; passes = m.passes })
      | inr e ↦ inr (is_merge ∙ ap (id_merge left) (is ∙ e) ∙ sym m.merges)
    ]

    new_passing : (row : List Binding) → IdCompatible left x → row ≡ id_merge left x → Passing row → (r : List Binding) → row ≡ r
        → IsPassingWith left (Contains (take (i + 1) others)) Passing r
    new_passing row agree is_merge pass r e = record { right = x; in_right = last; compatible = agree; merges = sym e ∙ is_merge; passes = subst Passing e pass }

    -- a passing merge with the next right row is gathered
    pub passing_gained : (old now new : List (List Binding)) (row : List Binding) → IdCompatible left x → row ≡ id_merge left x → Passing row
        → AreExactly (IsOfOrPassing old left (Contains (take i others)) Passing) now → AreExactly (IsOfOr now row) new
        → AreExactly (IsOfOrPassing old left (Contains (take (i + 1) others)) Passing) new
    passing_gained old now new row agree is_merge pass p g =
        gained (IsOfOrPassing old left (Contains (take i others)) Passing) (IsOfOrPassing old left (Contains (take (i + 1) others)) Passing) now new row p g (λ r. (
          λ s. elim s [ inl c ↦ inl (inl c) | inr m ↦ elim (next_passing row agree is_merge pass r m) [ inl k ↦ inl (inr k) | inr e ↦ inr e ] ],
          λ s. elim s [
            | inl k ↦ elim k [ inl c ↦ inl c | inr m ↦ inr (passing_more (Contains (take i others)) (Contains (take (i + 1) others)) more r m) ]
            | inr e ↦ inr (new_passing row agree is_merge pass r e)
          ],
        ))

    -- it tells that there is one
    pub passing_told : (row : List Binding) → IdCompatible left x → row ≡ id_merge left x → Passing row → TellsPassing true left (Contains (take (i + 1) others)) Passing
    passing_told row agree is_merge pass = (row, new_passing row agree is_merge pass row refl)

    -- what an error leaves out is a passing merge or was there
    pub passing_of : (old now : List (List Binding)) (row : List Binding) → IdCompatible left x → row ≡ id_merge left x → Passing row
        → AreExactly (IsOfOrPassing old left (Contains (take i others)) Passing) now → (r : List Binding) → IsOfOr now row r → IsOfOrPassing old left (Contains others) Passing r
    passing_of old now row agree is_merge pass p r (inl c) = elim ((p r).0 c) [
      | inl k ↦ inl k
      | inr m ↦ inr (passing_more (Contains (take i others)) (Contains others) (in_all others i) r m)
    ]
    passing_of old now row agree is_merge pass p r (inr e) =
        inr (record { right = x; in_right = item_in others i x h is; compatible = agree; merges = sym e ∙ is_merge; passes = subst Passing e pass })

    -- where the next right row has no passing merge, nothing changes
    same_passing : (IdCompatible left x → Passing (id_merge left x) → ⊥) → (r : List Binding)
        → IsPassingWith left (Contains (take (i + 1) others)) Passing r → IsPassingWith left (Contains (take i others)) Passing r
    same_passing none r m = elim ((taken others i x h m.right).0 m.in_right) [
      | inl c ↦ record { right = m.right; in_right = c; compatible = m.compatible; merges = m.merges; passes = m.passes }
      | inr e ↦ absurd (none (subst (IdCompatible left) (sym (is ∙ e)) m.compatible) (subst Passing (m.merges ∙ ap (id_merge left) (sym (is ∙ e))) m.passes))
    ]

    pub passing_kept : (old now : List (List Binding)) → (IdCompatible left x → Passing (id_merge left x) → ⊥)
        → AreExactly (IsOfOrPassing old left (Contains (take i others)) Passing) now → AreExactly (IsOfOrPassing old left (Contains (take (i + 1) others)) Passing) now
    passing_kept old now none p =
        as_well (IsOfOrPassing old left (Contains (take i others)) Passing) (IsOfOrPassing old left (Contains (take (i + 1) others)) Passing) now p (λ r. (
          λ s. elim s [ inl c ↦ inl c | inr m ↦ inr (same_passing none r m) ],
          λ s. elim s [ inl c ↦ inl c | inr m ↦ inr (passing_more (Contains (take i others)) (Contains (take (i + 1) others)) more r m) ],
        ))

    pub telling_kept : (found : Bool) → (IdCompatible left x → Passing (id_merge left x) → ⊥)
        → TellsPassing found left (Contains (take i others)) Passing → TellsPassing found left (Contains (take (i + 1) others)) Passing
    telling_kept true none t = (t.0, passing_more (Contains (take i others)) (Contains (take (i + 1) others)) more t.0 t.1)
    telling_kept false none t = λ q c agree pass. elim ((taken others i x h q).0 c) [
      | inl k ↦ t q k agree pass
      | inr e ↦ none (subst (IdCompatible left) (sym (is ∙ e)) agree) (subst (λ z. Passing (id_merge left z)) (sym (is ∙ e)) pass)
    ]

  -- before the first right row, the rows are the old ones
  pub passing_first : (old : List (List Binding)) → AreExactly (IsOfOrPassing old left (Contains []) Passing) old
  passing_first old r = (inl, λ s. elim s [ inl c ↦ c | inr m ↦ absurd (none_in m.right m.in_right) ])

  pub telling_first : TellsPassing false left (Contains []) Passing
  telling_first q c agree pass = none_in q c

module _ (Right : List Binding → Type 0) (items : List (List Binding)) (i : ℕ) (x : List Binding) (h : i < length items) (is : x ≡ get_or items i x) where
  -- the merges of the next left row are gathered
  joined_more : (r : List Binding) → IsJoined id_var (Contains (take i items)) Right r → IsJoined id_var (Contains (take (i + 1) items)) Right r
  joined_more r j =
      record { left = j.left; right = j.right; in_left = (taken items i x h j.left).1 (inl j.in_left); in_right = j.in_right; compatible = j.compatible; merges = j.merges }

  joined_last : (r : List Binding) → IsPassingWith x Right (λ q. Unit {0}) r → IsJoined id_var (Contains (take (i + 1) items)) Right r
  joined_last r m =
      record { left = x; right = m.right; in_left = (taken items i x h x).1 (inr (sym is)); in_right = m.in_right; compatible = m.compatible; merges = m.merges }

  joined_cases : (r : List Binding) → IsJoined id_var (Contains (take (i + 1) items)) Right r
      → IsJoined id_var (Contains (take i items)) Right r ⊎ IsPassingWith x Right (λ q. Unit {0}) r
  joined_cases r j = elim ((taken items i x h j.left).0 j.in_left) [
    | inl c ↦ inl (record { left = j.left; right = j.right; in_left = c; in_right = j.in_right; compatible = j.compatible; merges = j.merges })
    | inr e ↦
        let own = is ∙ e in
        inr (record {
          right = j.right;
          in_right = j.in_right;
          compatible = subst (λ l. IdCompatible l j.right) (sym own) j.compatible;
          merges = j.merges ∙ ap (λ l. id_merge l j.right) (sym own);
          passes = tt;
        })
  ]

  pub joined_gained : (now new : List (List Binding)) → AreExactly (IsJoined id_var (Contains (take i items)) Right) now
      → AreExactly (IsOfOrPassing now x Right (λ q. Unit {0})) new → AreExactly (IsJoined id_var (Contains (take (i + 1) items)) Right) new
  joined_gained now new p g r = (
    λ c. elim ((g r).0 c) [ inl k ↦ joined_more r ((p r).0 k) | inr m ↦ joined_last r m ],
    λ j. elim (joined_cases r j) [ inl k ↦ (g r).1 (inl ((p r).1 k)) | inr m ↦ (g r).1 (inr m) ],
  )

  -- what an error leaves out is a merge
  pub joined_of : (now : List (List Binding)) → AreExactly (IsJoined id_var (Contains (take i items)) Right) now → (r : List Binding)
      → IsOfOrPassing now x Right (λ q. Unit {0}) r → IsJoined id_var (Contains items) Right r
  joined_of now p r (inl c) = let j = (p r).0 c in
      record { left = j.left; right = j.right; in_left = in_all items i j.left j.in_left; in_right = j.in_right; compatible = j.compatible; merges = j.merges }
  joined_of now p r (inr m) =
      record { left = x; right = m.right; in_left = item_in items i x h is; in_right = m.in_right; compatible = m.compatible; merges = m.merges }

-- before the first left row there are no merges
pub joined_first : (Right : List Binding → Type 0) → AreExactly (IsJoined id_var (Contains []) Right) []
joined_first Right r = (λ c. absurd (none_in r c), λ j. absurd (none_in j.left j.in_left))

-- what a merge that may be tells, where there is one and where there is none
pub merge_some : (left right : List Binding) (Passing : List Binding → Type 0) (o : Option (List Binding)) (row : List Binding) → IsPassingMerge left right Passing o → o ≡ Some row
    → IdCompatible left right × (row ≡ id_merge left right) × Passing row
merge_some left right Passing o row m e = subst (IsPassingMerge left right Passing) e m

pub merge_none : (left right : List Binding) (Passing : List Binding → Type 0) (o : Option (List Binding)) → IsPassingMerge left right Passing o → o ≡ None
    → IdCompatible left right → Passing (id_merge left right) → ⊥
merge_none left right Passing o m e = subst (IsPassingMerge left right Passing) e m

-- what is known of rows and of what was told, of values that are these
pub as_told : (P : List Binding → Type 0) (most : ℕ) (T : Bool → Type 0) (a b : List (List Binding)) (found told : Bool) → a ≡ b → found ≡ told → AreExactly P b → length b ≤ most
    → T told → AreExactly P a × (length a ≤ most) × T found
as_told P most T a b found told e f p n t =
    let both = as_result P most a b e p n in (both.0, both.1, subst T (sym f) t)

module _ (Right Passing : List Binding → Type 0) where
  module _ (left : List Binding) (old now : List (List Binding)) (p : AreExactly (IsOfOrPassing old left Right Passing) now) where
    -- where there is a passing merge, the passing merges are all that a left row gives
    pub left_merged : TellsPassing true left Right Passing → AreExactly (IsOfOrLeft old left Right Passing) now
    left_merged t r = (
      λ c. elim ((p r).0 c) [ inl k ↦ inl k | inr m ↦ inr (inl m) ],
      λ s. elim s [
        | inl k ↦ (p r).1 (inl k)
        | inr k ↦ elim k [ inl m ↦ (p r).1 (inr m) | inr a ↦ absurd (no_passing left Passing Right a.1 t.0 t.1) ]
      ],
    )

    -- where there is none, it gives itself
    pub left_alone : (new : List (List Binding)) (row : List Binding) → row ≡ left → TellsPassing false left Right Passing → AreExactly (IsOfOr now row) new
        → AreExactly (IsOfOrLeft old left Right Passing) new
    left_alone new row same t g r = (
      λ c. elim ((g r).0 c) [
        | inl k ↦ elim ((p r).0 k) [ inl o ↦ inl o | inr m ↦ inr (inl m) ]
        | inr e ↦ inr (inr (sym same ∙ e, t))
      ],
      λ s. elim s [
        | inl k ↦ (g r).1 (inl ((p r).1 (inl k)))
        | inr k ↦ elim k [ inl m ↦ (g r).1 (inl ((p r).1 (inr m))) | inr a ↦ (g r).1 (inr (same ∙ a.0)) ]
      ],
    )

    -- what an error leaves out is of it
    pub left_of : (row : List Binding) → row ≡ left → TellsPassing false left Right Passing → (r : List Binding) → IsOfOr now row r → IsOfOrLeft old left Right Passing r
    left_of row same t r (inl c) = elim ((p r).0 c) [ inl k ↦ inl k | inr m ↦ inr (inl m) ]
    left_of row same t r (inr e) = inr (inr (sym same ∙ e, t))

  module _ (items : List (List Binding)) (i : ℕ) (x : List Binding) (h : i < length items) (is : x ≡ get_or items i x) where
    left_more : (r : List Binding) → IsLeftJoined id_var (Contains (take i items)) Right Passing r → IsLeftJoined id_var (Contains (take (i + 1) items)) Right Passing r
    left_more r (inl j) = inl (joined_more Right items i x h is r j.0, j.1)
    left_more r (inr a) = inr ((taken items i x h r).1 (inl a.0), a.1)

    plain : (r : List Binding) → IsPassingWith x Right Passing r → IsPassingWith x Right (λ q. Unit {0}) r
    plain r m = record { right = m.right; in_right = m.in_right; compatible = m.compatible; merges = m.merges; passes = tt }

    passing : (r : List Binding) → Passing r → IsPassingWith x Right (λ q. Unit {0}) r → IsPassingWith x Right Passing r
    passing r t m = record { right = m.right; in_right = m.in_right; compatible = m.compatible; merges = m.merges; passes = t }

    left_last : (r : List Binding) → IsPassingWith x Right Passing r ⊎ ((x ≡ r) × IsAlone id_var Right Passing x)
        → IsLeftJoined id_var (Contains (take (i + 1) items)) Right Passing r
    left_last r (inl m) = inl (joined_last Right items i x h is r (plain r m), m.passes)
    left_last r (inr a) = inr ((taken items i x h r).1 (inr (sym is ∙ a.0)), subst (IsAlone id_var Right Passing) a.0 a.1)

    left_cases : (r : List Binding) → IsLeftJoined id_var (Contains (take (i + 1) items)) Right Passing r
        → IsLeftJoined id_var (Contains (take i items)) Right Passing r ⊎ (IsPassingWith x Right Passing r ⊎ ((x ≡ r) × IsAlone id_var Right Passing x))
    left_cases r (inl j) = elim (joined_cases Right items i x h is r j.0) [ inl k ↦ inl (inl (k, j.1)) | inr m ↦ inr (inl (passing r j.1 m)) ]
    left_cases r (inr a) = elim ((taken items i x h r).0 a.0) [
      | inl k ↦ inl (inr (k, a.1))
      | inr e ↦ inr (inr (is ∙ e, subst (IsAlone id_var Right Passing) (sym (is ∙ e)) a.1))
    ]

    -- what the next left row gives is gathered
    pub left_gained : (now new : List (List Binding)) → AreExactly (IsLeftJoined id_var (Contains (take i items)) Right Passing) now
        → AreExactly (IsOfOrLeft now x Right Passing) new → AreExactly (IsLeftJoined id_var (Contains (take (i + 1) items)) Right Passing) new
    left_gained now new p g r = (
      λ c. elim ((g r).0 c) [ inl k ↦ left_more r ((p r).0 k) | inr l ↦ left_last r l ],
      λ j. elim (left_cases r j) [ inl k ↦ (g r).1 (inl ((p r).1 k)) | inr l ↦ (g r).1 (inr l) ],
    )

    of_all : (r : List Binding) → IsLeftJoined id_var (Contains (take i items)) Right Passing r → IsLeftJoined id_var (Contains items) Right Passing r
    of_all r (inl j) = inl (
      record {
        left = j.0.left;
        right = j.0.right;
        in_left = in_all items i j.0.left j.0.in_left;
        in_right = j.0.in_right;
        compatible = j.0.compatible;
        merges = j.0.merges;
      },
      j.1,
    )
    of_all r (inr a) = inr (in_all items i r a.0, a.1)

    -- what an error leaves out is of all that left rows give
    pub left_joined_of : (now : List (List Binding)) → AreExactly (IsLeftJoined id_var (Contains (take i items)) Right Passing) now → (r : List Binding)
        → IsOfOrLeft now x Right Passing r → IsLeftJoined id_var (Contains items) Right Passing r
    left_joined_of now p r (inl c) = of_all r ((p r).0 c)
    left_joined_of now p r (inr (inl m)) = inl (
      record {
        left = x;
        right = m.right;
        in_left = item_in items i x h is;
        in_right = m.in_right;
        compatible = m.compatible;
        merges = m.merges;
      },
      m.passes,
    )
    left_joined_of now p r (inr (inr a)) = inr (subst (Contains items) a.0 (item_in items i x h is), subst (IsAlone id_var Right Passing) a.0 a.1)

-- ---- right rows that are near a left one stand for all

module _ (right rows : List (List Binding)) (left : List Binding) (near : AreNear right left rows) (Passing : List Binding → Type 0) where
  to_right : (r : List Binding) → IsPassingWith left (Contains rows) Passing r → IsPassingWith left (Contains right) Passing r
  to_right r m = record { right = m.right; in_right = near.only m.right m.in_right; compatible = m.compatible; merges = m.merges; passes = m.passes }

  to_near : (r : List Binding) → IsPassingWith left (Contains right) Passing r → IsPassingWith left (Contains rows) Passing r
  to_near r m = record { right = m.right; in_right = near.all m.right m.in_right m.compatible; compatible = m.compatible; merges = m.merges; passes = m.passes }

  alone_right : IsAlone id_var (Contains rows) Passing left → IsAlone id_var (Contains right) Passing left
  alone_right a q c agree pass = a q (near.all q c agree) agree pass

  alone_near : IsAlone id_var (Contains right) Passing left → IsAlone id_var (Contains rows) Passing left
  alone_near a q c agree pass = a q (near.only q c) agree pass

  -- merges gathered from those near are gathered from all
  pub near_of : (old : List (List Binding)) (r : List Binding) → IsOfOrPassing old left (Contains rows) Passing r → IsOfOrPassing old left (Contains right) Passing r
  near_of old r (inl c) = inl c
  near_of old r (inr m) = inr (to_right r m)

  pub near_gathered : (old new : List (List Binding)) → AreExactly (IsOfOrPassing old left (Contains rows) Passing) new
      → AreExactly (IsOfOrPassing old left (Contains right) Passing) new
  near_gathered old new p = as_well (IsOfOrPassing old left (Contains rows) Passing) (IsOfOrPassing old left (Contains right) Passing) new p (λ r. (
    λ s. elim s [ inl c ↦ inl c | inr m ↦ inr (to_near r m) ],
    near_of old r,
  ))

  pub near_left_of : (old : List (List Binding)) (r : List Binding) → IsOfOrLeft old left (Contains rows) Passing r → IsOfOrLeft old left (Contains right) Passing r
  near_left_of old r (inl c) = inl c
  near_left_of old r (inr (inl m)) = inr (inl (to_right r m))
  near_left_of old r (inr (inr a)) = inr (inr (a.0, alone_right a.1))

  near_left_from : (old : List (List Binding)) (r : List Binding) → IsOfOrLeft old left (Contains right) Passing r → IsOfOrLeft old left (Contains rows) Passing r
  near_left_from old r (inl c) = inl c
  near_left_from old r (inr (inl m)) = inr (inl (to_near r m))
  near_left_from old r (inr (inr a)) = inr (inr (a.0, alone_near a.1))

  pub near_left_gathered : (old new : List (List Binding)) → AreExactly (IsOfOrLeft old left (Contains rows) Passing) new
      → AreExactly (IsOfOrLeft old left (Contains right) Passing) new
  near_left_gathered old new p =
      as_well (IsOfOrLeft old left (Contains rows) Passing) (IsOfOrLeft old left (Contains right) Passing) new p (λ r. (near_left_from old r, near_left_of old r))
