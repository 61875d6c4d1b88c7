-- White space, and quotes.
use Rattle.std.specs.Prelude.{◌≡◌, ◌⊎◌, ℕ, ◌<◌, Bool, ◌||◌, ◌==◌, IsTrue, List, [], ◌∷◌, ◌++◌, length}
use Rattle.std.specs.List.{AllByRecursion}
use Rattle.ssap_grammar.specs.Front.{Front, Word, ◌then◌}

-- WS: a byte is a space, a tab, a carriage return or a line feed
abbrev pub is_white : ℕ → Bool
is_white byte = byte == 0x20 || byte == 9 || byte == 13 || byte == 10

-- a byte is white space
abbrev pub IsWhite : ℕ → Type 0
IsWhite byte = IsTrue (is_white byte)

-- WS*: any number of bytes of white space
pub record Spaces (bytes rest : List ℕ) : Type 0 where
  pub white : List ℕ
  pub each : AllByRecursion IsWhite white
  pub reads : bytes ≡ white ++ rest

-- WS+: one or more bytes of white space
pub record SomeSpaces (bytes rest : List ℕ) : Type 0 where
  pub white : List ℕ
  pub some : 0 < length white
  pub each : AllByRecursion IsWhite white
  pub reads : bytes ≡ white ++ rest

-- a quote is `"` or `'`
abbrev pub IsQuote : ℕ → Type 0
IsQuote byte = (byte ≡ 34) ⊎ (byte ≡ 39)

-- Q: a quote, what stands between, and the same quote again
pub record Quoted (Inner : ℕ → Front) (bytes rest : List ℕ) : Type 0 where
  pub quote : ℕ
  pub is : IsQuote quote
  pub reads : (Word (quote ∷ []) then Inner quote then Word (quote ∷ [])) bytes rest
