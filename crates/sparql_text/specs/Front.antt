-- Readings of tokens. Each production of the grammar relates tokens to the rest behind what it reads, for one value that it
-- reads.
use Rattle.std.specs.Prelude.{◌≡◌, ◌⊎◌, List, [], ◌∷◌, Option, None, Some}
use Rattle.sparql_text.specs.declared.word.Word.{Word}
use Rattle.sparql_text.specs.Tokens.{Token, Fixed}

-- a relation between tokens and the rest behind what is read
abbrev pub Front : Type 1
Front = List Token → List Token → Type 0

-- this word
abbrev pub The : Word → Front
The word tokens rest = tokens ≡ Fixed word ∷ rest

-- one token that stands for this value
abbrev pub One : {A : Type 0} → (Token → Option A) → A → Front
One stands value tokens rest = (token : Token) × (stands token ≡ Some value) × (tokens ≡ token ∷ rest)

-- nothing at all
abbrev pub Nothing : Front
Nothing tokens rest = tokens ≡ rest

-- one thing and then another
pub record Then (First Second : Front) (tokens rest : List Token) : Type 0 where
  pub middle : List Token
  pub first : First tokens middle
  pub second : Second middle rest

infixr 20 ◌then◌
-- one thing and then another
abbrev pub ◌then◌ : Front → Front → Front
(First then Second) tokens rest = Then First Second tokens rest

-- things of one kind, one after another, with these values
abbrev pub Many : {A : Type 0} → (A → Front) → List A → Front
Many Each [] tokens rest = tokens ≡ rest
Many Each (value ∷ values) tokens rest = Then (Each value) (Many Each values) tokens rest

-- a thing that may be left out, with the value that it has where it is there
abbrev pub Given : {A : Type 0} → (A → Front) → Option A → Front
Given Each None tokens rest = tokens ≡ rest
Given Each (Some value) tokens rest = Each value tokens rest

-- a thing that may be left out, and has no value
abbrev pub Perhaps : Front → Front
Perhaps Thing tokens rest = Thing tokens rest ⊎ (tokens ≡ rest)
