-- The total after one number more.
use Rattle.std.proofs.Common.{◌≡◌, ℕ, List, [], ◌∷◌, ◌++◌, refl}
use Rattle.tests_turn.specs.Sums.{plus, total_after}

pub one_number_more : (total : ℕ) (ns : List ℕ) (n : ℕ) → total_after total (ns ++ n ∷ []) ≡ plus (total_after total ns) n
one_number_more total [] n = refl
one_number_more total (m ∷ ns) n = one_number_more (plus total m) ns n
