-- The word of a turn: what each step makes of it.
use Rattle.std.proofs.Common.{◌≡◌, ℕ, ◌+◌, ◌-◌, ◌*◌, ◌^◌, ◌%◌, ◌<◌, ◌≤◌, bit_or, arith, sym, ap, ◌∙◌}
use Rattle.std.proofs.Math.Nat.{add-mod_right, mod-eq_of_lt}
use Rattle.std.proofs.lemmas.Nat.{and_mask}
use Rattle.std.specs.Int.Bits.{or_add_and}

pub double_is_even : (n : ℕ) → (2 * n) % 2 ≡ 0
double_is_even n = omega arith

pub next_is_odd : (n : ℕ) → (2 * n + 1) % 2 ≡ 1
next_is_odd n = omega arith

or_one : (n : ℕ) → bit_or n 1 + n % 2 ≡ n + 1
or_one n = ap (λ (k : ℕ). bit_or n 1 + k) (sym (and_mask n 1)) ∙ or_add_and n 1

pub or_even : (n : ℕ) → bit_or (2 * n) 1 ≡ 2 * n + 1
or_even n = omega (arith, or_one (2 * n), double_is_even n)

pub or_odd : (n : ℕ) → bit_or (2 * n + 1) 1 ≡ 2 * n + 1
or_odd n = omega (arith, or_one (2 * n + 1), next_is_odd n)

-- the word after a call, and after a call that was refused
pub after_call : (n : ℕ) → n < 4611686018427387904 → (2 * n + 1 + 1) % 2 ^ 64 ≡ 2 * (n + 1)
after_call n room = let small : 2 * n + 1 + 1 < 2 ^ 64 = omega arith in mod-eq_of_lt small ∙ (omega arith)

pub after_refusal : (n : ℕ) → n ≤ 4611686018427387904 → (2 * n + 1 + (2 ^ 64 - 1)) % 2 ^ 64 ≡ 2 * n
after_refusal n within =
    let small : 2 * n < 2 ^ 64 = omega arith in
    let round : 2 * n + 1 + (2 ^ 64 - 1) ≡ 2 * n + 2 ^ 64 = omega arith in
    ap (λ (k : ℕ). k % 2 ^ 64) round ∙ (add-mod_right (2 * n) (2 ^ 64) ∙ mod-eq_of_lt small)
