-- Keys in an order, each once, and one key put among them.
use Rattle.std.specs.Prelude.{◌≡◌, List, [], ◌∷◌, ◌++◌, filter, refl}
use Rattle.std.specs.Ordering.{nat_cmp, is_lt, is_gt}
use Rattle.std.specs.declared.cmp.Ordering.{Ordering}

-- the ordered keys with this key at its place, once: those below it, the key, those above it
abbrev pub inserted : {K : Type 0} → (K → K → Ordering) → K → List K → List K
inserted cmp key keys = filter (λ k. is_lt (cmp k key)) keys ++ key ∷ filter (λ k. is_gt (cmp k key)) keys

-- 2 goes between 1 and 3
example_between : inserted nat_cmp 2 (1 ∷ 3 ∷ []) ≡ 1 ∷ 2 ∷ 3 ∷ []
example_between = refl

-- 3 is there already
example_there : inserted nat_cmp 3 (1 ∷ 3 ∷ []) ≡ 1 ∷ 3 ∷ []
example_there = refl
