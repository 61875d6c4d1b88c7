-- How many bytes the value of a string has.
use Rattle.std.proofs.Common.{◌≡◌, ℕ, suc, ◌+◌, Bool, true, false, ◌||◌, ◌&&◌, not, ◌==◌, cond, List, [], ◌∷◌, length, refl, ◌∙◌, ap, arith}
use Rattle.std.specs.Prelude.{IsTrue, if◌then◌else◌}
use Rattle.sparql_text.specs.Tokens.{Unescapes, is_string_byte}
use Rattle.sparql_text.specs.Tokens.Unescapes.{Done, Plain, Escape}
use Rattle.sparql_text.specs.Cutting.{IsValue}

-- how many bytes the raw bytes of a string stand for, the first of which may stand behind `\`
abbrev pub value_len : Bool → List ℕ → ℕ
value_len escaped [] = 0
value_len escaped (byte ∷ raw) = if byte == 92 && not escaped then value_len true raw else suc (value_len false raw)

not_backslash : (quote byte : ℕ) → IsTrue (is_string_byte quote byte) → (byte == 92) ≡ false
not_backslash quote byte h = last (byte == quote || byte == 10 || byte == 13) (byte == 92) h
  where
    last : (a b : Bool) → not (a || b) ≡ true → b ≡ false
    last true b h = absurd (cc)
    last false true h = absurd (cc)
    last false false h = refl

value_bytes : (quote : ℕ) (raw value : List ℕ) → Unescapes quote raw value → value_len false raw ≡ length value
value_bytes quote raw value Done = refl
value_bytes quote raw value (Plain byte r v plain u) = rw (not_backslash quote byte plain) (ap suc (value_bytes quote r v u))
value_bytes quote raw value (Escape letter byte r v e u) = escaped (letter == 92) (value_len true r) (suc (value_len false r)) ∙ ap suc (value_bytes quote r v u)
  where
    escaped : (b : Bool) (n m : ℕ) → cond (b && false) n m ≡ m
    escaped true n m = refl
    escaped false n m = refl

value_counted : (raw value : List ℕ) → IsValue raw value → value_len false raw ≡ length value
value_counted raw value is = value_bytes is.0 raw value is.2

-- at the end of the raw bytes all are counted
pub all_counted : (raw value left : List ℕ) (count : ℕ) (escaped : Bool) → IsValue raw value → length left ≡ 0 → count + value_len escaped left ≡ value_len false raw
    → count ≡ length value
all_counted raw value [] count escaped is end e = let all = value_counted raw value is in omega (arith, all, e)
all_counted raw value (byte ∷ left) count escaped is end e = absurd (omega (arith, end))
