-- Rows gathered into a list of distinct ones.
use Rattle.std.proofs.Common.{◌≡◌, ◌∙◌, ◌↔◌, ◌⊎◌, inl, inr, ℕ, ◌+◌, ◌<◌, ◌≤◌, Bool, true, false, List, [], ◌∷◌, ◌++◌, length, take, drop, get_or, Contains, Result, Err, IfErr, refl, sym, ap, subst, arith}
use Rattle.std.proofs.lemmas.List.Elements.{Contains-push, Contains-push_cases, Contains-append_left}
use Rattle.std.proofs.lemmas.Map.Keys.{IsDistinct-cons}
use Rattle.std.proofs.lemmas.List.{take_more, take-append-drop}
use Rattle.std.specs.List.{IsDistinct, AllByRecursion}
use Rattle.m3_terms.specs.InsertedLaws.{cons_cases, head_in, tail_in}
use Rattle.sparql_algebra.specs.declared.var.Var.{Var}
use Rattle.sparql_algebra.specs.declared.mapping.Binding.{Binding}
use Rattle.sparql_algebra.specs.Solutions.{solution_eq}
use Rattle.sparql_algebra.specs.SolutionLaws.{solution_exact}
use Rattle.sparql_algebra.specs.Projected.{projected}
use Rattle.sparql_algebra.specs.RowSets.{IsProjectedRow, AreExactly, IsOfOr, IsOfEither, AreMoreThan, WhyNone}
use Rattle.sparql_algebra.specs.declared.gather.RowsFault.{RowsFault}
use Rattle.sparql_algebra.specs.declared.gather.RowsFault.TheVariants.{TooMany, NoMemory}

-- with a row appended, the rows are those before and this one
pub appended : (old : List (List Binding)) (row : List Binding) (new : List (List Binding)) → new ≡ old ++ row ∷ [] → AreExactly (IsOfOr old row) new
appended old row new e = subst (AreExactly (IsOfOr old row)) (sym e) (λ r. (
  Contains-push_cases old row r,
  λ s. elim s [ inl h ↦ Contains-append_left old (row ∷ []) r h | inr one ↦ subst (Contains (old ++ row ∷ [])) one (Contains-push old row) ],
))

-- where a row is there already, the rows are those before and this one
pub already : (old : List (List Binding)) (row : List Binding) → Contains old row → AreExactly (IsOfOr old row) old
already old row there r = (inl, λ s. elim s [ inl h ↦ h | inr one ↦ subst (Contains old) one there ])

other_at : (a b : List Binding) (same : Bool) → solution_eq a b ≡ same → (a ≡ b → ⊥) → solution_eq a b ≡ false
other_at a b true e n = absurd (n ((solution_exact a b).0 e))
other_at a b false e n = e

-- a row that is not there equals none
no_equal : (row : List Binding) (rows : List (List Binding)) → (Contains rows row → ⊥) → AllByRecursion (λ other. solution_eq row other ≡ false) rows
no_equal row [] n = tt
no_equal row (r ∷ rows) n = (
  other_at row r _ refl (λ e. n (subst (Contains (r ∷ rows)) (sym e) (head_in r rows))),
  no_equal row rows (λ c. n (tail_in r rows row c)),
)

-- as many distinct rows as are wanted at most, and another, are too many
pub too_many : (old : List (List Binding)) (row : List Binding) (most : ℕ) → (Contains old row → ⊥) → IsDistinct solution_eq old → length old ≡ most
    → AreMoreThan most (IsOfOr old row)
too_many old row most n d e = record {
  rows = row ∷ old;
  distinct = IsDistinct-cons solution_eq row old (no_equal row old n) d;
  each = λ r c. elim (cons_cases row old r c) [ inl one ↦ inr one | inr h ↦ inl h ];
  many = omega (arith, e);
}

-- what is too many of some rows is too many of any that have them
pub more_than : (most : ℕ) (P Q : List Binding → Type 0) → ((row : List Binding) → P row → Q row) → AreMoreThan most P → AreMoreThan most Q
more_than most P Q f m = record { rows = m.rows; distinct = m.distinct; each = λ r c. f r (m.each r c); many = m.many }

-- why rows are not given, told of more rows
pub why_none : (most : ℕ) (P Q : List Binding → Type 0) (fault : RowsFault) → ((row : List Binding) → P row → Q row) → WhyNone most P fault → WhyNone most Q fault
why_none most P Q TooMany f w = more_than most P Q f w
why_none most P Q NoMemory f w = tt

-- the same of the fault that a result has
pub result_why_none : {X : Type 0} (most : ℕ) (P Q : List Binding → Type 0) (result : Result X RowsFault) (fault given : RowsFault) → result ≡ Err given → given ≡ fault
    → ((row : List Binding) → P row → Q row) → WhyNone most P fault → IfErr result (WhyNone most Q)
result_why_none most P Q result fault given e g f w =
    subst (λ r. IfErr r (WhyNone most Q)) (sym e) (subst (WhyNone most Q) (sym g) (why_none most P Q fault f w))

-- where one row more has a property, gathering it gathers what has the property
pub gained : (P Q : List Binding → Type 0) (now new : List (List Binding)) (row : List Binding) → AreExactly P now → AreExactly (IsOfOr now row) new
    → ((r : List Binding) → Q r ↔ (P r ⊎ (row ≡ r))) → AreExactly Q new
gained P Q now new row p g q r = (
  λ c. elim ((g r).0 c) [ inl h ↦ (q r).1 (inl ((p r).0 h)) | inr e ↦ (q r).1 (inr e) ],
  λ h. elim ((q r).0 h) [ inl k ↦ (g r).1 (inl ((p r).1 k)) | inr e ↦ (g r).1 (inr e) ],
)

-- rows that have one property are those that have an equal one
pub as_well : (P Q : List Binding → Type 0) (now : List (List Binding)) → AreExactly P now → ((r : List Binding) → Q r ↔ P r) → AreExactly Q now
as_well P Q now p q r = (λ c. (q r).1 ((p r).0 c), λ h. (p r).1 ((q r).0 h))

-- what is in the first of some items is one of those before or the last of them
pub taken : {X : Type 0} (xs : List X) (i : ℕ) (d : X) → i < length xs → (q : X) → Contains (take (i + 1) xs) q ↔ (Contains (take i xs) q ⊎ (get_or xs i d ≡ q))
taken xs i d h q = (
  λ c. Contains-push_cases (take i xs) (get_or xs i d) q (subst (λ l. Contains l q) (take_more xs i d h) c),
  λ s. subst (λ l. Contains l q) (sym (take_more xs i d h)) (elim s [
    | inl c ↦ Contains-append_left (take i xs) (get_or xs i d ∷ []) q c
    | inr e ↦ subst (Contains (take i xs ++ get_or xs i d ∷ [])) e (Contains-push (take i xs) (get_or xs i d))
  ]),
)

-- an item is in the list
pub item_in : {X : Type 0} (xs : List X) (i : ℕ) (x : X) → i < length xs → x ≡ get_or xs i x → Contains xs x
item_in xs i x h e = (i, h, sym e)

-- the first items are in the list
pub in_all : {X : Type 0} (xs : List X) (i : ℕ) (q : X) → Contains (take i xs) q → Contains xs q
in_all xs i q c = subst (λ l. Contains l q) (take-append-drop i xs) (Contains-append_left (take i xs) (drop i xs) q c)

module _ (items : List (List Binding)) (i : ℕ) (x row : List Binding) (h : i < length items) (is : x ≡ get_or items i x) (same : row ≡ x) where
  -- the row is the last of the items taken
  last_is : (r : List Binding) → get_or items i x ≡ r → row ≡ r
  last_is r e = same ∙ is ∙ e

  is_last : (r : List Binding) → row ≡ r → get_or items i x ≡ r
  is_last r e = sym is ∙ sym same ∙ e

  -- rows of a list gathered one by one
  pub either_gained : (old now new : List (List Binding)) → AreExactly (IsOfEither old (take i items)) now → AreExactly (IsOfOr now row) new
      → AreExactly (IsOfEither old (take (i + 1) items)) new
  either_gained old now new p g = gained (IsOfEither old (take i items)) (IsOfEither old (take (i + 1) items)) now new row p g (λ r. (
    λ s. elim s [ inl c ↦ inl (inl c) | inr c ↦ elim ((taken items i x h r).0 c) [ inl k ↦ inl (inr k) | inr e ↦ inr (last_is r e) ] ],
    λ s. elim s [ inl k ↦ elim k [ inl c ↦ inl c | inr c ↦ inr ((taken items i x h r).1 (inl c)) ] | inr e ↦ inr ((taken items i x h r).1 (inr (is_last r e))) ],
  ))

  -- what an error leaves out is of the list
  pub either_of : (old now : List (List Binding)) → AreExactly (IsOfEither old (take i items)) now → (r : List Binding) → IsOfOr now row r → IsOfEither old items r
  either_of old now p r (inl c) = elim ((p r).0 c) [ inl k ↦ inl k | inr k ↦ inr (in_all items i r k) ]
  either_of old now p r (inr e) = inr (subst (Contains items) (sym same ∙ e) (item_in items i x h is))

  -- rows that have a property gathered one by one
  pub with_gained : (T : List Binding → Type 0) (now new : List (List Binding)) → T x → AreExactly (λ r. Contains (take i items) r × T r) now
      → AreExactly (IsOfOr now row) new → AreExactly (λ r. Contains (take (i + 1) items) r × T r) new
  with_gained T now new t p g = gained (λ r. Contains (take i items) r × T r) (λ r. Contains (take (i + 1) items) r × T r) now new row p g (λ r. (
    λ s. elim ((taken items i x h r).0 s.0) [ inl c ↦ inl (c, s.1) | inr e ↦ inr (last_is r e) ],
    λ s. elim s [ inl c ↦ ((taken items i x h r).1 (inl c.0), c.1) | inr e ↦ ((taken items i x h r).1 (inr (is_last r e)), subst T (sym same ∙ e) t) ],
  ))

  -- a row without the property is passed over
  pub without_passed : (T : List Binding → Type 0) (now : List (List Binding)) → (T x → ⊥) → AreExactly (λ r. Contains (take i items) r × T r) now
      → AreExactly (λ r. Contains (take (i + 1) items) r × T r) now
  without_passed T now n p = as_well (λ r. Contains (take i items) r × T r) (λ r. Contains (take (i + 1) items) r × T r) now p (λ r. (
    λ s. elim ((taken items i x h r).0 s.0) [ inl c ↦ (c, s.1) | inr e ↦ absurd (n (subst T (sym (is ∙ e)) s.1)) ],
    λ s. ((taken items i x h r).1 (inl s.0), s.1),
  ))

  pub with_of : (T : List Binding → Type 0) (now : List (List Binding)) → T x → AreExactly (λ r. Contains (take i items) r × T r) now
      → (r : List Binding) → IsOfOr now row r → Contains items r × T r
  with_of T now t p r (inl c) = let k = (p r).0 c in (in_all items i r k.0, k.1)
  with_of T now t p r (inr e) = (subst (Contains items) (sym same ∙ e) (item_in items i x h is), subst T (sym same ∙ e) t)

  -- the projection of the next row is gathered
  pub projected_gained : (columns : List Var) (now new : List (List Binding)) (made : List Binding) → made ≡ projected columns x
      → AreExactly (IsProjectedRow columns (Contains (take i items))) now → AreExactly (IsOfOr now made) new
      → AreExactly (IsProjectedRow columns (Contains (take (i + 1) items))) new
  projected_gained columns now new made m p g = gained (IsProjectedRow columns (Contains (take i items))) (IsProjectedRow columns (Contains (take (i + 1) items))) now new made p g (λ r. (
    λ s. elim ((taken items i x h s.0).0 s.1) [ inl c ↦ inl (s.0, c, s.2) | inr e ↦ inr (m ∙ ap (projected columns) (is ∙ e) ∙ sym s.2) ],
    λ s. elim s [ inl k ↦ (k.0, (taken items i x h k.0).1 (inl k.1), k.2) | inr e ↦ (x, (taken items i x h x).1 (inr (sym is)), sym e ∙ m) ],
  ))

-- nothing is in the empty list
pub none_in : {X : Type 0} (q : X) → Contains [] q → ⊥
none_in q c = let below : c.0 < 0 = c.1 in omega arith

-- rows gathered into an empty list are those rows
pub first_gathered : (left rows : List (List Binding)) → AreExactly (IsOfEither [] left) rows → (r : List Binding) → Contains rows r → Contains left r
first_gathered left rows p r c = elim ((p r).0 c) [ inl k ↦ absurd (none_in r k) | inr k ↦ k ]

-- rows gathered from two lists are those of either
pub both_gathered : (left right first rows : List (List Binding)) → AreExactly (IsOfEither [] left) first → AreExactly (IsOfEither first right) rows
    → AreExactly (IsOfEither left right) rows
both_gathered left right first rows p q = as_well (IsOfEither first right) (IsOfEither left right) rows q (λ r. (
  λ s. elim s [ inl c ↦ inl ((p r).1 (inr c)) | inr c ↦ inr c ],
  λ s. elim s [ inl c ↦ inl (first_gathered left first p r c) | inr c ↦ inr c ],
))

pub either_from_first : (left right : List (List Binding)) (r : List Binding) → IsOfEither [] left r → IsOfEither left right r
either_from_first left right r (inl c) = absurd (none_in r c)
either_from_first left right r (inr c) = inl c

pub either_from_second : (left right first : List (List Binding)) → AreExactly (IsOfEither [] left) first → (r : List Binding) → IsOfEither first right r → IsOfEither left right r
either_from_second left right first p r (inl c) = inl (first_gathered left first p r c)
either_from_second left right first p r (inr c) = inr c

-- what is known of rows, of a value that is these rows
pub as_result : (P : List Binding → Type 0) (most : ℕ) (a b : List (List Binding)) → a ≡ b → AreExactly P b → length b ≤ most → AreExactly P a × (length a ≤ most)
as_result P most a b e p n = subst (λ l. AreExactly P l × (length l ≤ most)) (sym e) (p, n)
