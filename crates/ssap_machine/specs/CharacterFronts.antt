-- Fronts of characters of two bytes and more, in UTF-8 (Unicode, table 3-7).
use Rattle.std.specs.Prelude.{◌≡◌, ◌⊎◌, ℕ, ◌+◌, ◌<◌, ◌≤◌, List, ◌++◌, length, take, encode_utf8}
use Rattle.m3_terms.specs.Text.{IsAllowed}
use Rattle.ssap_machine.specs.declared.characters.CharacterFront.{CharacterFront}
use Rattle.ssap_machine.specs.declared.characters.CharacterFront.TheVariants.{Whole, Half, Stuck}

-- an allowed character goes on behind these bytes
pub record IsBegun (bytes : List ℕ) : Type 0 where
  pub character : ℕ
  pub more : List ℕ
  pub some : 0 < length more
  pub high : 128 ≤ character
  pub allowed : IsAllowed character
  pub is : encode_utf8 character ≡ bytes ++ more

-- so many bytes are an allowed character
pub record IsWholeCharacter (bytes : List ℕ) (count : ℕ) : Type 0 where
  pub within : count ≤ length bytes
  pub some : 0 < count
  pub character : ℕ
  pub high : 128 ≤ character
  pub allowed : IsAllowed character
  pub is : encode_utf8 character ≡ take count bytes

-- no allowed character begins with the bytes up to that at the place, and one with those before it
pub record IsNoCharacter (bytes : List ℕ) (place : ℕ) : Type 0 where
  pub within : place < length bytes
  pub begun : (place ≡ 0) ⊎ IsBegun (take place bytes)
  pub none : (character : ℕ) (more : List ℕ) → IsAllowed character → ¬ (encode_utf8 character ≡ take (place + 1) bytes ++ more)

-- how an allowed character begins with the bytes
abbrev pub Begun : List ℕ → CharacterFront → Type 0
Begun bytes (Whole count) = IsWholeCharacter bytes count
Begun bytes Half = IsBegun bytes
Begun bytes (Stuck place) = IsNoCharacter bytes place

-- a byte is a second one behind this first one, of a character of three bytes
abbrev pub IsSecondOfThree : ℕ → ℕ → Type 0
IsSecondOfThree first second = (0x80 ≤ second) × (second ≤ 0xBF) × (first ≡ 0xE0 → 0xA0 ≤ second) × (first ≡ 0xED → second ≤ 0x9F)

-- the third is so too; U+FFFE and U+FFFF are not allowed
abbrev pub IsThirdOfThree : ℕ → ℕ → ℕ → Type 0
IsThirdOfThree first second third = (0x80 ≤ third) × (third ≤ 0xBF) × (first ≡ 0xEF → second ≡ 0xBF → third ≤ 0xBD)

-- the same of four
abbrev pub IsSecondOfFour : ℕ → ℕ → Type 0
IsSecondOfFour first second = (0x80 ≤ second) × (second ≤ 0xBF) × (first ≡ 0xF0 → 0x90 ≤ second) × (first ≡ 0xF4 → second ≤ 0x8F)

-- and of those behind
abbrev pub IsLater : ℕ → Type 0
IsLater byte = (0x80 ≤ byte) × (byte ≤ 0xBF)
