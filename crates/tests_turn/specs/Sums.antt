-- Numbers that are added up, in 64 bits.
use Rattle.std.specs.Prelude.{ℕ, ◌+◌, ◌^◌, ◌%◌, List, [], ◌∷◌}

abbrev pub plus : ℕ → ℕ → ℕ
plus total number = (total + number) % 2 ^ 64

-- the total after these numbers
abbrev pub total_after : ℕ → List ℕ → ℕ
total_after total [] = total
total_after total (n ∷ ns) = total_after (plus total n) ns
