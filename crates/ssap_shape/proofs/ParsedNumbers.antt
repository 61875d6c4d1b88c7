-- What a number's text is read as.
use Rattle.std.proofs.Common.{◌≡◌, sym, subst, ℕ, ◌<◌, ◌^◌, List, Result, Ok}
use Rattle.std.specs.Fmt.{decimal}
use Rattle.std.specs.Str.{IsUtf8}
use Rattle.std.specs.Str.Parse.{ParsesUnsigned}
use Rattle.std.proofs.lemmas.Fmt.{parse-decimal, IsAscii-decimal}
use Rattle.std.proofs.lemmas.Str.{IsUtf8-from_ascii}

-- the digits of a number are UTF-8
pub digits_utf8 : (bytes : List ℕ) (number : ℕ) → bytes ≡ decimal number → number < 2 ^ 64 → IsUtf8 bytes
digits_utf8 bytes number is small = subst IsUtf8 (sym is) (IsUtf8-from_ascii (decimal number) (IsAscii-decimal number small))

-- and are read as it
pub digits_read : {E : Type 0} (bytes : List ℕ) (number : ℕ) (result : Result ℕ E) → bytes ≡ decimal number → number < 2 ^ 64 → ParsesUnsigned 64 10 bytes result
    → result ≡ Ok number
digits_read bytes number result is small reads = parse-decimal 64 number bytes result small small is reads
