-- Lines that are put into a room from its end.
use Rattle.std.proofs.Common.{◌≡◌, ◌∙◌, ap, arith, ℕ, ◌+◌, ◌-◌, ◌<◌, ◌≤◌, ◌^◌, List, ◌∷◌, ◌++◌, length, drop, length-drop, length-append, set}
use Rattle.std.proofs.lemmas.Fmt.{length-decimal-le}
use Rattle.std.proofs.lemmas.List.{drop-set}
use Rattle.std.specs.Fmt.{decimal}

-- a number of at most 64 bits has at most 20 digits
pub number_short : (n : ℕ) → n < 2 ^ 64 → length (decimal n) ≤ 20
number_short n h = length-decimal-le 20 n (omega arith) (omega arith) h

-- a byte is put before what stands at the end of a room
pub put_before : (room end : List ℕ) (at byte : ℕ) → 1 ≤ at → 1 ≤ length end → drop at room ≡ end → drop (at - 1) (set room (at - 1) byte) ≡ byte ∷ end
put_before room end at byte some filled e =
    let next : at - 1 + 1 ≡ at = omega arith in
    let long : length (drop at room) ≡ length end = ap length e in
    drop-set room (at - 1) byte (omega (arith, long, length-drop at room)) ∙ ap (λ n. byte ∷ drop n room) next ∙ ap (λ l. byte ∷ l) e

-- a number and then a byte are no less than one byte
pub number_then : (digits rest : List ℕ) (byte : ℕ) → 1 ≤ length (digits ++ byte ∷ rest)
number_then digits rest byte = omega (arith, length-append digits (byte ∷ rest))
