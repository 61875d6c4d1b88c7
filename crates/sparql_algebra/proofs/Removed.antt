-- A row taken out of distinct rows.
use Rattle.std.proofs.Common.{◌≡◌, ◌∙◌, Bool, true, false, cond, List, ℕ, ◌+◌, if◌then◌else◌, refl, sym, subst, true≢false}
use Rattle.std.proofs.lemmas.Map.Views.{Contains-from_any, list_any-from_Contains}
use Rattle.std.specs.List.{list_any}
use Rattle.sparql_algebra.specs.declared.mapping.Binding.{Binding}
use Rattle.sparql_algebra.specs.Solutions.{solution_eq, IsWithoutRow}
use Rattle.sparql_algebra.specs.SolutionLaws.{solution_eq_equiv, solution_exact}

-- a row that passes a test in which another never does
kept_so : (same : Bool) (kept : Bool) → cond same false kept ≡ true → (kept ≡ true) × (same ≡ false)
kept_so true kept h = absurd (true≢false (sym h))
kept_so false kept h = (h, refl)

so_kept : (same : Bool) (kept : Bool) → kept ≡ true → same ≡ false → cond same false kept ≡ true
so_kept same kept h s = rw s h

differs : (row other : List Binding) (same : Bool) → solution_eq row other ≡ same → (row ≡ other → ⊥) → same ≡ false
differs row other true e n = absurd (n ((solution_exact row other).0 e))
differs row other false e n = refl

-- where a test is changed at one row alone, that row is gone
pub without : (old new : List (List Binding)) (row : List Binding)
    → ((other : List Binding) → list_any (solution_eq other) new ≡ cond (solution_eq row other) false (list_any (solution_eq other) old)) → IsWithoutRow old row new
without old new row step other = (
  λ c.
      let both = kept_so (solution_eq row other) (list_any (solution_eq other) old) (sym (step other) ∙ list_any-from_Contains solution_eq_equiv other new c) in
      (Contains-from_any (λ a b. (solution_exact a b).0) other old both.0, λ e. true≢false (sym ((solution_exact row other).1 e) ∙ both.1)),
  λ s. Contains-from_any (λ a b. (solution_exact a b).0) other new
      (step other ∙ so_kept (solution_eq row other) (list_any (solution_eq other) old) (list_any-from_Contains solution_eq_equiv other old s.0) (differs row other _ refl s.1)),
)

-- where the row was found, there is one less
pub one_less : (n m : ℕ) (found : Bool) → found ≡ true → n + (if found then 1 else 0) ≡ m → n + 1 ≡ m
one_less n m found h e = subst (λ b. n + (if b then 1 else 0) ≡ m) h e
