-- Rows that are taken out of a list one by one, and rows that are moved into one.
use Rattle.std.proofs.Common.{◌≡◌, ◌∙◌, ◌↔◌, ◌⊎◌, inl, inr, ℕ, zero, suc, ◌+◌, ◌<◌, false, List, [], ◌∷◌, ◌++◌, length, take, get_or, Contains, sym, subst, arith, true≢false}
use Rattle.std.proofs.lemmas.List.Elements.{Contains-push, Contains-push_cases, Contains-append_left}
use Rattle.std.proofs.lemmas.Map.Keys.{IsDistinct-head, IsDistinct-tail}
use Rattle.std.specs.List.{IsDistinct}
use Rattle.m3_terms.specs.InsertedLaws.{cons_cases}
use Rattle.sparql_algebra.specs.declared.mapping.Binding.{Binding}
use Rattle.sparql_algebra.specs.RowSets.{AreExactly, IsOfEither}
use Rattle.sparql_algebra.specs.Solutions.{solution_eq, IsWithoutRow}
use Rattle.sparql_algebra.specs.SolutionLaws.{solution_exact}
use Rattle.sparql_algebra.proofs.Gathered.{none_in, item_in, taken}
use Rattle.sparql_algebra.proofs.ListMembers.{in_all_of}
use Rattle.delta_eval.specs.Changed.{IsOfOnly}

-- ---- distinct rows in their order

-- a row is not among those before it
pub not_before : (items : List (List Binding)) (i : ℕ) (x : List Binding) → IsDistinct solution_eq items → i < length items → x ≡ get_or items i x → Contains (take i items) x → ⊥
not_before [] i x d h is c = omega (arith, h)
not_before (k ∷ ks) zero x d h is c = none_in x c
not_before (k ∷ ks) (suc i) x d h is c =
    let within : i < length ks = omega (arith, h) in
    elim (cons_cases k (take i ks) x c) [
      | inl e ↦
          let apart = in_all_of (λ y. solution_eq k y ≡ false) ks x (IsDistinct-head solution_eq k ks d) (item_in ks i x within is) in
          true≢false (sym ((solution_exact k x).1 e) ∙ apart)
      | inr rest ↦ not_before ks i x (IsDistinct-tail solution_eq k ks d) within is rest
    ]

module _ (items : List (List Binding)) (i : ℕ) (x : List Binding) (d : IsDistinct solution_eq items) (h : i < length items) (is : x ≡ get_or items i x) where
  -- the next row is still there while those before it were taken out
  pub still_there : (old now : List (List Binding)) → AreExactly (IsOfOnly old (take i items)) now → Contains old x → Contains now x
  still_there old now p c = (p x).1 (c, not_before items i x d h is)

  -- it is taken out too
  pub one_out : (old now new : List (List Binding)) → AreExactly (IsOfOnly old (take i items)) now → IsWithoutRow now x new → AreExactly (IsOfOnly old (take (i + 1) items)) new
  one_out old now new p w row = (
    λ c.
        let k = (w row).0 c in
        let f = (p row).0 k.0 in
        (f.0, λ t. elim ((taken items i x h row).0 t) [ inl before ↦ f.1 before | inr e ↦ k.1 (is ∙ e) ]),
    λ f. (w row).1 ((p row).1 (f.0, λ before. f.1 ((taken items i x h row).1 (inl before))), λ e. f.1 ((taken items i x h row).1 (inr (sym is ∙ e)))),
  )

  -- a row that is kept is added to those before it
  pub one_more : (others now : List (List Binding)) (row : List Binding) → row ≡ x → (Contains others x → ⊥) → AreExactly (IsOfOnly (take i items) others) now
      → AreExactly (IsOfOnly (take (i + 1) items) others) (now ++ row ∷ [])
  one_more others now row same n p q = (
    λ c. elim (Contains-push_cases now row q c) [
      | inl there ↦ let f = (p q).0 there in ((taken items i x h q).1 (inl f.0), f.1)
      | inr e ↦ ((taken items i x h q).1 (inr (sym is ∙ sym same ∙ e)), subst (λ r. Contains others r → ⊥) (sym same ∙ e) n)
    ],
    λ f. elim ((taken items i x h q).0 f.0) [
      | inl before ↦ Contains-append_left now (row ∷ []) q ((p q).1 (before, f.1))
      | inr e ↦ subst (Contains (now ++ row ∷ [])) (same ∙ is ∙ e) (Contains-push now row)
    ],
  )

  -- a row that is among the others is passed over
  pub one_passed : (others now : List (List Binding)) → Contains others x → AreExactly (IsOfOnly (take i items) others) now → AreExactly (IsOfOnly (take (i + 1) items) others) now
  one_passed others now there p q = (
    λ c. (let f = (p q).0 c in ((taken items i x h q).1 (inl f.0), f.1)),
    λ f. elim ((taken items i x h q).0 f.0) [
      | inl before ↦ (p q).1 (before, f.1)
      | inr e ↦ absurd (f.1 (subst (Contains others) (is ∙ e) there))
    ],
  )

  -- and it is not among those that were kept before
  pub not_kept : (others now : List (List Binding)) → AreExactly (IsOfOnly (take i items) others) now → Contains now x → ⊥
  not_kept others now p c = not_before items i x d h is ((p x).0 c).0

-- at first none was taken out
pub none_out : (old : List (List Binding)) → AreExactly (IsOfOnly old []) old
none_out old row = (λ c. (c, none_in row), λ f. f.0)

-- and none was kept
pub none_kept : (others now : List (List Binding)) → now ≡ [] → AreExactly (IsOfOnly [] others) now
none_kept others now e row = (λ c. absurd (none_in row (subst (λ l. Contains l row) e c)), λ f. absurd (none_in row f.0))

-- ---- rows that move

-- rows and those that are still to come are together what was there and all that come, and no row is both
pub record AreMoving (old added now left : List (List Binding)) : Type 0 where
  pub all : (row : List Binding) → IsOfEither now left row ↔ IsOfEither added old row
  pub apart : (row : List Binding) → Contains left row → Contains now row → ⊥

pub none_moved : (old added : List (List Binding)) → ((row : List Binding) → Contains added row → Contains old row → ⊥) → AreMoving old added old added
none_moved old added n = record {
  all = λ row. (λ s. elim s [ inl c ↦ inr c | inr c ↦ inl c ], λ s. elim s [ inl c ↦ inr c | inr c ↦ inl c ]);
  apart = n;
}

module _ (old added now left : List (List Binding)) (m : AreMoving old added now left) where
  module _ (rest : List (List Binding)) (row : List Binding) (last : left ≡ rest ++ row ∷ []) (once : Contains rest row → ⊥) where
    -- the last row is not there yet
    pub not_yet : Contains now row → ⊥
    not_yet c = m.apart row (subst (λ l. Contains l row) (sym last) (Contains-push rest row)) c

    left_either : (q : List Binding) → Contains left q → Contains rest q ⊎ (row ≡ q)
    left_either q c = Contains-push_cases rest row q (subst (λ l. Contains l q) last c)

    in_left : (q : List Binding) → Contains rest q ⊎ (row ≡ q) → Contains left q
    in_left q (inl c) = subst (λ l. Contains l q) (sym last) (Contains-append_left rest (row ∷ []) q c)
    in_left q (inr e) = subst (Contains left) e (subst (λ l. Contains l row) (sym last) (Contains-push rest row))

    in_more : (q : List Binding) → Contains now q ⊎ (row ≡ q) → Contains (now ++ row ∷ []) q
    in_more q (inl c) = Contains-append_left now (row ∷ []) q c
    in_more q (inr e) = subst (Contains (now ++ row ∷ [])) e (Contains-push now row)

    -- it moves
    pub moved : (new : List (List Binding)) → new ≡ now ++ row ∷ [] → AreMoving old added new rest
    moved new e = subst (λ l. AreMoving old added l rest) (sym e) (record {
      all = λ q. (
        λ s. (m.all q).0 (elim s [
          | inl c ↦ elim (Contains-push_cases now row q c) [ inl there ↦ inl there | inr one ↦ inr (in_left q (inr one)) ]
          | inr c ↦ inr (in_left q (inl c))
        ]),
        λ s. elim ((m.all q).1 s) [
          | inl c ↦ inl (in_more q (inl c))
          | inr c ↦ elim (left_either q c) [ inl there ↦ inr there | inr one ↦ inl (in_more q (inr one)) ]
        ],
      );
      apart = λ q c there. elim (Contains-push_cases now row q there) [
        | inl before ↦ m.apart q (in_left q (inl c)) before
        | inr one ↦ once (subst (Contains rest) (sym one) c)
      ];
    })

  -- where none is left, all came
  pub all_moved : left ≡ [] → AreExactly (IsOfEither added old) now
  all_moved e row = (
    λ c. (m.all row).0 (inl c),
    λ s. elim ((m.all row).1 s) [ inl c ↦ c | inr c ↦ absurd (none_in row (subst (λ l. Contains l row) e c)) ],
  )

-- what is obsolete was taken out and what is added moved in: the rows are those that are there after the change
pub both_done : (old added obsolete kept new : List (List Binding)) → AreExactly (IsOfOnly old obsolete) kept → AreExactly (IsOfEither added kept) new
    → (row : List Binding) → Contains new row ↔ (Contains added row ⊎ IsOfOnly old obsolete row)
both_done old added obsolete kept new p q row = (
  λ c. elim ((q row).0 c) [ inl come ↦ inl come | inr there ↦ inr ((p row).0 there) ],
  λ s. (q row).1 (elim s [ inl come ↦ inl come | inr there ↦ inr ((p row).1 there) ]),
)
