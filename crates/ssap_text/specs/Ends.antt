-- What stands where white space or a text ends.
use Rattle.std.specs.Prelude.{◌≡◌, ℕ, List, [], ◌∷◌, ◌++◌, codes, ⊤}
use Rattle.ssap_grammar.specs.Characters.{IsWhite}

-- no white space stands at the start
abbrev pub NoWhite : List ℕ → Type 0
NoWhite [] = ⊤
NoWhite (byte ∷ bytes) = ¬ (IsWhite byte)

-- `</` stands at the start
abbrev pub BeginsFinish : List ℕ → Type 0
BeginsFinish bytes = (more : List ℕ) × (bytes ≡ codes "</" ++ more)
