-- The tokens of a query text, and how each is spelled.
use Rattle.std.specs.Prelude.{◌≡◌, ◌≢◌, ◌⊎◌, ℕ, Bool, true, false, ◌||◌, ◌&&◌, not, ◌==◌, nat_le, if◌then◌else◌, IsTrue, List, [], ◌∷◌, ◌++◌, Option, Some, None, codes, refl}
use Rattle.std.proofs.Common.{inr}
use Rattle.std.specs.List.{list_all}
use Rattle.std.specs.Str.{str_to_ascii_lowercase}
use Rattle.m3_terms.specs.Text.{IsText}
use Rattle.sparql_text.specs.declared.word.Word.{Word}
use Rattle.sparql_text.specs.declared.word.Word.TheVariants as word

-- a token with its value: an IRI without its angle brackets, a prefixed name as its prefix and its local part, a
-- variable without its mark, a string after its escapes, or a word
pub data Token : Type 0 where
  Iri : List ℕ → Token
  Name : List ℕ → List ℕ → Token
  Variable : List ℕ → Token
  String : List ℕ → Token
  Fixed : Word → Token

-- a letter of ASCII
abbrev pub is_letter : ℕ → Bool
is_letter byte = (nat_le 65 byte && nat_le byte 90) || (nat_le 97 byte && nat_le byte 122)

-- a letter or digit of ASCII, or `_`
abbrev pub is_name_byte : ℕ → Bool
is_name_byte byte = is_letter byte || (nat_le 48 byte && nat_le byte 57) || byte == 95

-- a byte of a prefix: a letter, a digit, `_`, `-` or `.`
abbrev pub is_prefix_byte : ℕ → Bool
is_prefix_byte byte = is_name_byte byte || byte == 45 || byte == 46

-- the first byte of a local part: a letter, a digit, `_` or `:`
abbrev pub is_local_first : ℕ → Bool
is_local_first byte = is_name_byte byte || byte == 58

-- a byte of a local part: a letter, a digit, `_`, `:`, `-` or `.`
abbrev pub is_local_byte : ℕ → Bool
is_local_byte byte = is_local_first byte || byte == 45 || byte == 46

-- the last of these bytes is a dot
abbrev pub ends_in_dot : List ℕ → Bool
ends_in_dot [] = false
ends_in_dot (byte ∷ []) = byte == 46
ends_in_dot (byte ∷ other ∷ bytes) = ends_in_dot (other ∷ bytes)

-- no byte at all, or one that may come first and others of their kind, but no dot at the end
abbrev pub is_dotted : (ℕ → Bool) → (ℕ → Bool) → List ℕ → Bool
is_dotted first other [] = true
is_dotted first other (byte ∷ bytes) = first byte && list_all other bytes && not (ends_in_dot bytes)

-- a prefix: empty, or a letter and then letters, digits, `_`, `-` and `.`, not ending in `.`
abbrev pub is_prefix : List ℕ → Bool
is_prefix = is_dotted is_letter is_prefix_byte

-- a local part: empty, or letters, digits, `_`, `:`, `-` and `.`, neither beginning with `-` or `.` nor ending in `.`
abbrev pub is_local : List ℕ → Bool
is_local = is_dotted is_local_first is_local_byte

-- a byte of an IRI: none of 0 to 0x20, `<`, `>`, `"`, `{`, `}`, `|`, `^`, the backquote and the backslash
abbrev pub is_iri_byte : ℕ → Bool
is_iri_byte byte = not (nat_le byte 0x20 || byte == 60 || byte == 62 || byte == 34 || byte == 123 || byte == 125
    || byte == 124 || byte == 94 || byte == 96 || byte == 92)

-- a byte that stands for itself in a string between these quotes: not the quote, a line feed, a carriage return or `\`
abbrev pub is_string_byte : ℕ → ℕ → Bool
is_string_byte quote byte = not (byte == quote || byte == 10 || byte == 13 || byte == 92)

-- the byte that a letter behind `\` stands for: `\t`, `\n`, `\r`, `\\`, `\"` and `\'`
abbrev pub escape_of : ℕ → Option ℕ
escape_of letter = if letter == 116 then Some 9 else if letter == 110 then Some 10 else if letter == 114 then Some 13
    else if letter == 92 || letter == 34 || letter == 39 then Some letter else None

-- what stands between the quotes of a string, and the string's value
pub data Unescapes (quote : ℕ) : List ℕ → List ℕ → Type 0 where
  Done : Unescapes quote [] []
  Plain : (byte : ℕ) (raw value : List ℕ) → IsTrue (is_string_byte quote byte) → Unescapes quote raw value
      → Unescapes quote (byte ∷ raw) (byte ∷ value)
  Escape : (letter byte : ℕ) (raw value : List ℕ) → escape_of letter ≡ Some byte → Unescapes quote raw value
      → Unescapes quote (92 ∷ letter ∷ raw) (byte ∷ value)

-- how a word is spelled, a keyword in capitals but for `a`
unfoldable pub spelling : Word → List ℕ
spelling word.OpenBrace = codes "{"
spelling word.CloseBrace = codes "}"
spelling word.OpenParen = codes "("
spelling word.CloseParen = codes ")"
spelling word.Dot = codes "."
spelling word.Semicolon = codes ";"
spelling word.Comma = codes ","
spelling word.Star = codes "*"
spelling word.Equal = codes "="
spelling word.NotEqual = codes "!="
spelling word.Less = codes "<"
spelling word.Greater = codes ">"
spelling word.LessEqual = codes "<="
spelling word.GreaterEqual = codes ">="
spelling word.Not = codes "!"
spelling word.And = codes "&&"
spelling word.Or = codes "||"
spelling word.A = codes "a"
spelling word.Prefix = codes "PREFIX"
spelling word.Select = codes "SELECT"
spelling word.Distinct = codes "DISTINCT"
spelling word.Where = codes "WHERE"
spelling word.Union = codes "UNION"
spelling word.Optional = codes "OPTIONAL"
spelling word.Filter = codes "FILTER"
spelling word.Bound = codes "BOUND"
spelling word.IsIri = codes "ISIRI"
spelling word.IsUri = codes "ISURI"
spelling word.IsLiteral = codes "ISLITERAL"
spelling word.SameTerm = codes "SAMETERM"
spelling word.Str = codes "STR"
spelling word.Contains = codes "CONTAINS"
spelling word.StrStarts = codes "STRSTARTS"

-- bytes without the case of letters; that of `a` counts
abbrev pub folded : Word → List ℕ → List ℕ
folded word.A bytes = bytes
folded word bytes = str_to_ascii_lowercase bytes

-- the bytes are the word; the letters of a keyword are of either case, but `a` is written so alone
abbrev pub SpellsWord : Word → List ℕ → Type 0
SpellsWord word bytes = folded word bytes ≡ folded word (spelling word)

-- a quote is `"` or `'`
abbrev pub IsQuote : ℕ → Type 0
IsQuote byte = (byte ≡ 34) ⊎ (byte ≡ 39)

-- the bytes, and no others around them, are the token
abbrev pub Spells : Token → List ℕ → Type 0
Spells (Iri value) bytes = IsText value × (value ≢ []) × IsTrue (list_all is_iri_byte value) × (bytes ≡ 60 ∷ value ++ 62 ∷ [])
Spells (Name prefix local) bytes = IsTrue (is_prefix prefix) × IsTrue (is_local local) × (bytes ≡ prefix ++ 58 ∷ local)
Spells (Variable name) bytes = (name ≢ []) × IsTrue (list_all is_name_byte name) × ((bytes ≡ 63 ∷ name) ⊎ (bytes ≡ 36 ∷ name))
Spells (String value) bytes = (quote : ℕ) × (raw : List ℕ) × IsQuote quote × IsText raw × Unescapes quote raw value
    × (bytes ≡ quote ∷ raw ++ quote ∷ [])
Spells (Fixed word) bytes = SpellsWord word bytes

-- a prefix may have a dot inside
dotted_prefix : is_prefix (codes "a.b") ≡ true
dotted_prefix = refl

-- and none at its end
dot_at_end : is_prefix (codes "a.") ≡ false
dot_at_end = refl

-- a local part may begin with a digit, and a prefix may not
digit_first : (is_local (codes "7") ≡ true) × (is_prefix (codes "7") ≡ false)
digit_first = (refl, refl)

-- a keyword in letters of either case
mixed_case : Spells (Fixed word.Select) (codes "SeLect")
unfolding spelling
mixed_case = refl

-- a variable has either mark
either_mark : Spells (Variable (codes "x")) (codes "$x")
either_mark = (λ e. absurd (cc), refl, inr refl)
