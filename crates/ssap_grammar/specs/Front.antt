-- Readings of a prefix. Each production of the grammar relates bytes to the rest behind what it reads, for one value
-- that it spells.
use Rattle.std.specs.Prelude.{◌≡◌, ◌⊎◌, ℕ, List, [], ◌∷◌, ◌++◌, Option, Some, None}

-- a relation between bytes and the rest behind what is read
abbrev pub Front : Type 1
Front = List ℕ → List ℕ → Type 0

-- these bytes and no others
abbrev pub Word : List ℕ → Front
Word word bytes rest = bytes ≡ word ++ rest

-- nothing at all
abbrev pub Nothing : Front
Nothing bytes rest = bytes ≡ rest

-- one thing and then another
pub record Then (First Second : Front) (bytes rest : List ℕ) : Type 0 where
  pub middle : List ℕ
  pub first : First bytes middle
  pub second : Second middle rest

infixr 20 ◌then◌
-- one thing and then another
abbrev pub ◌then◌ : Front → Front → Front
(First then Second) bytes rest = Then First Second bytes rest

-- things of one kind, one after another, with these values
abbrev pub Many : {A : Type 0} → (A → Front) → List A → Front
Many One [] bytes rest = bytes ≡ rest
Many One (value ∷ values) bytes rest = Then (One value) (Many One values) bytes rest

-- a thing that may be left out, with the value that it has where it is there
abbrev pub Given : {A : Type 0} → (A → Front) → Option A → Front
Given One None bytes rest = bytes ≡ rest
Given One (Some value) bytes rest = One value bytes rest

-- a thing that may be left out, and has no value
abbrev pub Optional : Front → Front
Optional One bytes rest = One bytes rest ⊎ (bytes ≡ rest)

-- one of the words of a table, with the value that stands beside it there
abbrev pub OneOf : {A : Type 0} → List (List ℕ × A) → A → Front
OneOf [] value bytes rest = ⊥
OneOf (entry ∷ table) value bytes rest = ((value ≡ entry.1) × (bytes ≡ entry.0 ++ rest)) ⊎ OneOf table value bytes rest
