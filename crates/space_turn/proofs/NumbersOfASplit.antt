-- The numbers that two seats own after one is split from the other.
use Rattle.std.proofs.Common.{◌≡◌, ◌≢◌, ℕ, suc, ◌+◌, ◌*◌, ◌<◌, ◌≤◌, arith, lt_of_not-le, mul-le-mul_right, suc-mul, mul-add, add-mul}
use mathlib.Core.Logic.{dite}
use native.Mathlib.Decide.{dec_le}

-- a multiple of the double stride is one of the stride
pub doubled : (a s : ℕ) → a * (s + s) ≡ (a + a) * s
doubled a s = omega (arith, mul-add a s s, add-mul a a s)

further : (x y n : ℕ) → x < y → x * n + n ≤ y * n
further x y n h = let a : suc x * n ≤ y * n = mul-le-mul_right n h in omega (arith, suc-mul x n)

-- an even multiple of a stride and an odd one differ
pub even_odd : (a b s : ℕ) → 0 < s → (a + a) * s ≢ suc (b + b) * s
even_odd a b s some same =
    dite (dec_le a b)
    (λ le. let f = further (a + a) (suc (b + b)) s (omega arith) in
    let x : ℕ = (a + a) * s in let y : ℕ = suc (b + b) * s in let f' : x + s ≤ y = f in let same' : x ≡ y = same in omega arith)
    (λ more. let l = lt_of_not-le more in let f = further (suc (b + b)) (a + a) s (omega arith) in
    let x : ℕ = (a + a) * s in let y : ℕ = suc (b + b) * s in let f' : y + s ≤ x = f in let same' : x ≡ y = same in omega arith)
