-- Runs of plain characters.
use Rattle.std.specs.Prelude.{◌≡◌, ◌⊎◌, ℕ, ◌<◌, List, [], ◌∷◌, encode_utf8_all}
use Rattle.std.specs.List.{AllByRecursion}
use Rattle.m3_terms.specs.Text.{IsAllowed}

-- a number is one of three
abbrev pub IsOneOf : ℕ → ℕ → ℕ → ℕ → Type 0
IsOneOf first second third x = (x ≡ first) ⊎ (x ≡ second) ⊎ (x ≡ third)

-- a character is allowed, and none of three
abbrev pub IsPlain : ℕ → ℕ → ℕ → ℕ → Type 0
IsPlain first second third character = IsAllowed character × ¬ (IsOneOf first second third character)

-- the bytes are plain characters in UTF-8
pub record IsRun (first second third : ℕ) (bytes : List ℕ) : Type 0 where
  pub characters : List ℕ
  pub plain : AllByRecursion (IsPlain first second third) characters
  pub is : encode_utf8_all characters ≡ bytes

-- no plain character of ASCII is at the start
abbrev pub Stops : ℕ → ℕ → ℕ → List ℕ → Type 0
Stops first second third [] = Unit {0}
Stops first second third (byte ∷ bytes) = byte < 128 → IsAllowed byte → IsOneOf first second third byte
