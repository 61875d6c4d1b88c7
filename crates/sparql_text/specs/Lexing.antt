-- A text as its tokens: white space and comments stand between them, and the longest token is taken.
use Rattle.std.specs.Prelude.{◌≡◌, ◌≢◌, ℕ, ◌+◌, ◌≤◌, Bool, ◌||◌, not, ◌==◌, IsTrue, List, [], ◌∷◌, ◌++◌, length}
use Rattle.std.specs.List.{list_all}
use Rattle.m3_terms.specs.Text.{IsText}
use Rattle.sparql_text.specs.Tokens.{Token, Spells}

-- a byte is a space, a tab, a carriage return or a line feed
abbrev pub is_white : ℕ → Bool
is_white byte = byte == 0x20 || byte == 9 || byte == 13 || byte == 10

-- a byte ends a line: a carriage return or a line feed
abbrev pub ends_line : ℕ → Bool
ends_line byte = byte == 13 || byte == 10

-- a byte that ends no line
abbrev pub is_inline : ℕ → Bool
is_inline byte = not (ends_line byte)

-- a line ends here: at one of these bytes, or with the text
abbrev pub IsLineEnd : List ℕ → Type 0
IsLineEnd [] = Unit {0}
IsLineEnd (byte ∷ bytes) = IsTrue (ends_line byte)

-- white space and comments; a comment is `#` and a text up to the end of its line
pub data Gap : List ℕ → List ℕ → Type 0 where
  Nothing : (bytes : List ℕ) → Gap bytes bytes
  White : (byte : ℕ) (bytes rest : List ℕ) → IsTrue (is_white byte) → Gap bytes rest → Gap (byte ∷ bytes) rest
  Comment : (text bytes rest : List ℕ) → IsText text → IsTrue (list_all is_inline text) → IsLineEnd bytes
      → Gap bytes rest → Gap (35 ∷ text ++ bytes) rest

-- a token at the start of bytes, and the bytes behind it
abbrev pub Reads : Token → List ℕ → List ℕ → Type 0
Reads token bytes rest = (word : List ℕ) × Spells token word × (bytes ≡ word ++ rest)

-- the token that bytes begin with: the longest, so that no other leaves fewer bytes
pub record Begins (token : Token) (bytes rest : List ℕ) : Type 0 where
  pub reads : Reads token bytes rest
  pub longest : (other : Token) (left : List ℕ) → Reads other bytes left → length rest ≤ length left

-- some bytes that begin with no token, white space or comment
pub record IsNoToken (bytes : List ℕ) : Type 0 where
  pub some : bytes ≢ []
  pub token : (other : Token) (left : List ℕ) → ¬ (Reads other bytes left)
  pub gap : (left : List ℕ) → Gap bytes left → left ≡ bytes

-- a token and the offset of its first byte
pub record Placed : Type 0 where
  pub token : Token
  pub place : ℕ

-- the tokens with which bytes at the end of a text of so many bytes begin, each at its offset, and the bytes behind them
pub data Lexes (total : ℕ) : List ℕ → List Placed → List ℕ → Type 0 where
  NoToken : (bytes : List ℕ) → Lexes total bytes [] bytes
  Goes : (bytes middle next : List ℕ) (token : Token) (place : ℕ) (tokens : List Placed) (rest : List ℕ) → Gap bytes middle
      → Begins token middle next → place + length middle ≡ total → Lexes total next tokens rest
      → Lexes total bytes (record { token = token; place = place } ∷ tokens) rest

-- the text begins with these tokens
abbrev pub BeginsWith : List ℕ → List Placed → Type 0
BeginsWith text tokens = (rest : List ℕ) × Lexes (length text) text tokens rest

-- these are the tokens of the text, up to its end
abbrev pub AreTokens : List ℕ → List Placed → Type 0
AreTokens text tokens = (rest : List ℕ) × Lexes (length text) text tokens rest × Gap rest []

-- these are the tokens of the text up to the first bytes that are no token, which stand at this offset
pub record StopsAt (text : List ℕ) (tokens : List Placed) (place : ℕ) : Type 0 where
  pub rest : List ℕ
  pub bytes : List ℕ
  pub lexes : Lexes (length text) text tokens rest
  pub gap : Gap rest bytes
  pub stops : IsNoToken bytes
  pub at : place + length bytes ≡ length text
