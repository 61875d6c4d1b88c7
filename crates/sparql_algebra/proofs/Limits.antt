-- Of rows that are given within a limit there are not more than the limit, so a list that is given and the fault of too many exclude each other.
use Rattle.std.proofs.Common.{◌≡◌, ◌∙◌, ℕ, suc, ◌<◌, ◌≤◌, Bool, true, false, not, List, [], ◌∷◌, filter, length, Contains, ◌⊎◌, inl, inr, refl, sym, ap, subst, arith}
use Rattle.std.specs.List.{IsDistinct, AllByRecursion}
use Rattle.m3_terms.specs.InsertedLaws.{cons_cases, head_in, tail_in, is_kept}
use Rattle.sparql_algebra.specs.declared.mapping.Binding.{Binding}
use Rattle.sparql_algebra.specs.Solutions.{solution_eq}
use Rattle.sparql_algebra.specs.SolutionLaws.{solution_eq_equiv}
use Rattle.sparql_algebra.specs.RowSets.{AreExactly, AreMoreThan}

-- a filter keeps no more than there are: one step
kept_within : (p : List Binding → Bool) (r : List Binding) (rows : List (List Binding)) (kept : Bool) → p r ≡ kept → length (filter p rows) ≤ length rows
    → length (filter p (r ∷ rows)) ≤ suc (length rows)
kept_within p r rows true e h = rw e (omega (arith, h))
kept_within p r rows false e h = rw e (omega (arith, h))

all_within : (p : List Binding → Bool) (rows : List (List Binding)) → length (filter p rows) ≤ length rows
all_within p [] = omega arith
all_within p (r ∷ rows) = kept_within p r rows _ refl (all_within p rows)

-- and less where one fails: one step
fewer_at : (p : List Binding → Bool) (r x : List Binding) (rows : List (List Binding)) → p x ≡ false → (kept : Bool) → p r ≡ kept → (r ≡ x) ⊎ (length (filter p rows) < length rows)
    → length (filter p (r ∷ rows)) < suc (length rows)
fewer_at p r x rows f true e (inl one) = absurd (let t : true ≡ false = sym e ∙ ap p one ∙ f in cc)
fewer_at p r x rows f true e (inr h) = rw e (omega (arith, h))
fewer_at p r x rows f false e s = let h = all_within p rows in rw e (omega (arith, h))

fewer : (p : List Binding → Bool) (x : List Binding) (rows : List (List Binding)) → p x ≡ false → Contains rows x → length (filter p rows) < length rows
fewer p x [] f c = let below : c.0 < 0 = c.1 in absurd (omega arith)
fewer p x (r ∷ rows) f c = fewer_at p r x rows f _ refl (elim (cons_cases r rows x c) [ inl e ↦ inl e | inr k ↦ inr (fewer p x rows f k) ])

apart_at : (x r : List Binding) (rows : List (List Binding)) → AllByRecursion (λ y. solution_eq x y ≡ false) rows → Contains rows r → solution_eq x r ≡ false
apart_at x r [] a c = let below : c.0 < 0 = c.1 in absurd (omega arith)
apart_at x r (q ∷ rows) a c = elim (cons_cases q rows r c) [ inl e ↦ subst (λ y. solution_eq x y ≡ false) e a.0 | inr k ↦ apart_at x r rows a.1 k ]

-- distinct rows of a list are no more than the list has
pub no_more : (xs rows : List (List Binding)) → IsDistinct solution_eq xs → ((r : List Binding) → Contains xs r → Contains rows r) → length xs ≤ length rows
unfolding IsDistinct
no_more [] rows d s = omega arith
no_more (x ∷ xs) rows d s =
    let other : List Binding → Bool = λ y. not (solution_eq x y) in
    let itself : other x ≡ false = ap not (solution_eq_equiv.refl x) in
    let rest : length xs ≤ length (filter other rows) =
    no_more xs (filter other rows) d.1 (λ r c. is_kept other rows r (ap not (apart_at x r xs d.0 c)) (s r (tail_in x xs r c))) in
    let less : length (filter other rows) < length rows = fewer other x rows itself (s x (head_in x xs)) in
    omega (arith, rest, less)

-- a list of all rows that have a property, within the limit, leaves no room for more than the limit
pub limit_exact : (most : ℕ) (P : List Binding → Type 0) (rows : List (List Binding)) → AreExactly P rows → length rows ≤ most → AreMoreThan most P → ⊥
limit_exact most P rows p within m =
    let bound = no_more m.rows rows m.distinct (λ r c. (p r).1 (m.each r c)) in omega (arith, bound, within, m.many)
