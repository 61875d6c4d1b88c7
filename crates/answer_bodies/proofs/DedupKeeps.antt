-- A test finds the same once neighbours that are equal become one.
use Rattle.std.proofs.Common.{◌≡◌, Bool, true, false, ◌||◌, cond, List, [], ◌∷◌, refl, sym, ap, ◌∙◌}
use Rattle.std.specs.List.{list_any, dedup, dedup_from}

-- what is found once is found twice
found_twice : (a b rest : Bool) → b ≡ a → (a || rest) ≡ (a || (b || rest))
found_twice true b rest e = refl
found_twice false b rest e = ap (λ c. c || rest) (sym e)

module _ {K : Type 0} {E : K → K → Bool} (one : (x y : K) → E x y ≡ true → x ≡ y) (p : K → Bool) where
  -- where a test finds the same behind one item and behind the next, it does so behind both, whether they are equal or not
  dedup_at : (k x : K) (xs : List K) (same : Bool) → E x k ≡ same → list_any p (dedup_from E k xs) ≡ (p k || list_any p xs)
      → list_any p (dedup_from E x xs) ≡ (p x || list_any p xs)
      → list_any p (cond same (dedup_from E k xs) (k ∷ dedup_from E x xs)) ≡ (p k || (p x || list_any p xs))
  dedup_at k x xs true e first other = first ∙ found_twice (p k) (p x) (list_any p xs) (ap p (one x k e))
  dedup_at k x xs false e first other = ap (λ b. p k || b) other

  -- a test finds the same among items behind one, and among those that stay of them
  dedup_behind : (k : K) (xs : List K) → list_any p (dedup_from E k xs) ≡ (p k || list_any p xs)
  dedup_behind k [] = refl
  dedup_behind k (x ∷ xs) = dedup_at k x xs (E x k) refl (dedup_behind k xs) (dedup_behind x xs)

  -- a test finds the same among items, and among those that stay of them where neighbours that are equal become one
  pub any_dedup : (xs : List K) → list_any p (dedup E xs) ≡ list_any p xs
  any_dedup [] = refl
  any_dedup (x ∷ xs) = dedup_behind x xs
