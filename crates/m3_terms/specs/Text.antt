-- Texts: lists of allowed characters in UTF-8.
use Rattle.std.specs.Prelude.{◌≡◌, ℕ, Bool, true, false, ◌||◌, ◌&&◌, ◌==◌, nat_le, IsTrue, ◌≤◌, ◌<◌, List, [], ◌∷◌, length, take, encode_utf8_all, refl, ⊤}
use Rattle.std.specs.Char.{encode_utf8}
use Rattle.std.specs.List.{AllByRecursion}
use Rattle.m3_terms.specs.declared.term.TermFault.{TermFault}
use Rattle.m3_terms.specs.declared.term.TermFault.TheVariants.{Empty, TooLong, NotText, NoMemory}

-- a code point lies in the set Char of XML 1.0 (section 2.2)
abbrev pub is_allowed : ℕ → Bool
is_allowed c = c == 9 || c == 10 || c == 13 || (nat_le 0x20 c && nat_le c 0xD7FF)
    || (nat_le 0xE000 c && nat_le c 0xFFFD) || (nat_le 0x10000 c && nat_le c 0x10FFFF)

-- a character is allowed
abbrev pub IsAllowed : ℕ → Type 0
IsAllowed c = IsTrue (is_allowed c)

-- a byte is an allowed character by itself, so one of ASCII
abbrev pub is_plain : ℕ → Bool
is_plain b = b == 9 || b == 10 || b == 13 || (nat_le 0x20 b && nat_le b 0x7F)

-- the bytes are the UTF-8 of some allowed characters
abbrev pub IsText : List ℕ → Type 0
IsText bytes = (characters : List ℕ) × AllByRecursion IsAllowed characters × (encode_utf8_all characters ≡ bytes)

-- the longest prefix of the bytes that is a text ends before place, and is not the whole
pub record FailsAt (bytes : List ℕ) (place : ℕ) : Type 0 where
  pub within : place < length bytes
  pub text : IsText (take place bytes)
  pub longest : (n : ℕ) → n ≤ length bytes → IsText (take n bytes) → n ≤ place

-- why the bytes are no text
abbrev pub TextFault : List ℕ → TermFault → Type 0
TextFault bytes Empty = ⊥
TextFault bytes (TooLong n) = ⊥
TextFault bytes (NotText place) = FailsAt bytes place
TextFault bytes NoMemory = ⊤

-- U+FFFE is not allowed
noncharacter : is_allowed 0xFFFE ≡ false
noncharacter = refl

-- a line feed is allowed
line_feed : is_allowed 10 ≡ true
line_feed = refl

-- the bytes of an e with an acute accent and of a line feed are a text
accented : IsText (0xC3 ∷ 0xA9 ∷ 0x0A ∷ [])
unfolding encode_utf8
accented = (0xE9 ∷ 10 ∷ [], (refl, (refl, tt)), refl)
