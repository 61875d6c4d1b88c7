-- A count in decimal, and what it is read as.
use Rattle.std.proofs.Common.{◌≡◌, ◌∙◌, ap, sym, refl, subst, arith, ℕ, zero, suc, ◌<◌, ◌^◌, List, get_or, Result, Ok}
use Rattle.std.specs.Fmt.{decimal}
use Rattle.std.specs.Str.Parse.{ParsesUnsigned, AllDigits, digits_value}
use Rattle.std.proofs.lemmas.Fmt.{parse-decimal, decimal_digit, decimal_nonempty, first_decimal, decimal-digits_value}
use Rattle.std.proofs.lemmas.Str.Parse.{IsNumeralModel, numerals_by_value, tells_digits, parse_plain}
use Rattle.kp_talk.specs.Words.{IsBare, IsCount}

-- digits and their value
own : IsNumeralModel (AllDigits 10) (digits_value 10)
own = numerals_by_value (AllDigits 10) tells_digits

-- a number in decimal has neither a sign nor a leading zero
decimal_bare : (count : ℕ) → count < 2 ^ 64 → IsBare (decimal count)
decimal_bare zero small = subst IsBare (sym (decimal_digit 0 (omega arith))) (record { some = omega arith; unsigned = λ e. omega (arith, e); leading = λ e. refl })
decimal_bare (suc count) small =
    let first : 48 < get_or (decimal (suc count)) 0 0 = first_decimal (suc count) (omega arith) small in
    record { some = decimal_nonempty (suc count) small; unsigned = λ e. omega (arith, e, first); leading = λ e. absurd (omega (arith, e, first)) }

-- a count is bare
pub count_bare : (word : List ℕ) (count : ℕ) → IsCount word count → IsBare word
count_bare word count is = subst IsBare (sym is.said) (decimal_bare count (omega (arith, is.small)))

-- and is read as itself
pub count_read : {E : Type 0} (word : List ℕ) (count : ℕ) (result : Result ℕ E) → IsCount word count → ParsesUnsigned 32 10 word result → result ≡ Ok count
count_read word count result is reads = parse-decimal 32 count word result (omega (arith, is.small)) (omega (arith, is.small)) is.said reads

-- what bare digits are read as is spelled by them
pub read_count : {E : Type 0} (word : List ℕ) (count : ℕ) (result : Result ℕ E) → IsBare word → ParsesUnsigned 32 10 word result → result ≡ Ok count → word ≡ decimal count
read_count {E} word count result bare reads is =
    let ((digits, some, small), same) = parse_plain own {E = E} 32 word (Ok count) (subst (λ (r : Result ℕ E). ParsesUnsigned 32 10 word r) is reads) bare.unsigned in
    sym (ap decimal same ∙ decimal-digits_value own word digits some bare.leading (omega (arith, small)))
