-- What stands between the quotes of a string has one value.
use Rattle.std.proofs.Common.{◌≡◌, ℕ, Bool, true, false, ◌==◌, not, ◌||◌, List, [], ◌∷◌, refl, ◌∙◌, ap}
use Rattle.std.proofs.lemmas.Bool.{both_ways, eqb-true}
use Rattle.sparql_text.specs.Tokens.{Unescapes, is_string_byte}
use Rattle.sparql_text.specs.Tokens.Unescapes.{Done, Plain, Escape}
use Rattle.sparql_text.specs.Values.{unescaped}

-- a byte that stands for itself is no backslash
pub plain_byte : (quote byte : ℕ) → is_string_byte quote byte ≡ true → (byte == 92) ≡ false
plain_byte quote byte plain = go (byte == 92) refl
  where
    go : (t : Bool) → (byte == 92) ≡ t → t ≡ false
    go false e = refl
    go true e = absurd (both_ways (is_string_byte quote byte) (rw (eqb-true byte 92 e) (no_slash quote)) plain)
      where
        no_slash : (quote : ℕ) → is_string_byte quote 92 ≡ false
        no_slash quote = last (92 == quote)
          where
            last : (t : Bool) → not (t || false || false || true) ≡ false
            last false = refl
            last true = refl

-- behind one that stands for itself the value goes on
pub plain_value : (byte : ℕ) (raw : List ℕ) → (byte == 92) ≡ false → unescaped (byte ∷ raw) ≡ byte ∷ unescaped raw
plain_value byte [] e = refl
plain_value byte (letter ∷ raw) e = rw e refl

-- the value is the one that is computed
pub one_value : (quote : ℕ) (raw value : List ℕ) → Unescapes quote raw value → unescaped raw ≡ value
one_value quote r v Done = refl
one_value quote r v (Plain byte raw value plain x) = plain_value byte raw (plain_byte quote byte plain) ∙ ap (λ l. byte ∷ l) (one_value quote raw value x)
one_value quote r v (Escape letter byte raw value is x) = rw is (ap (λ l. byte ∷ l) (one_value quote raw value x))
