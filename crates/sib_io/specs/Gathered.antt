-- Bytes that are gathered before they are handed on.
use Rattle.std.specs.Prelude.{◌≡◌, ℕ, List, [], ◌∷◌, ◌++◌, Option, Some, refl}
use Rattle.std.specs.Io.KnownBytes.{Appends}
use Rattle.sib_io.specs.declared.piece.TheConstants.{PIECE_LIMIT}

-- a piece has at most 65,536 bytes
piece_limit : PIECE_LIMIT ≡ 65536
piece_limit = refl

-- a prefix of the bytes that were kept was handed on, and the others are left
abbrev pub HandsOn : Option (List ℕ) → Option (List ℕ) → List ℕ → List ℕ → Type 0
HandsOn old new kept left = (part : List ℕ) × (part ++ left ≡ kept) × Appends old new part

-- of three bytes two were handed on, and one is left
two_of_three : HandsOn (Some []) (Some (1 ∷ 2 ∷ [])) (1 ∷ 2 ∷ 3 ∷ []) (3 ∷ [])
two_of_three = (1 ∷ 2 ∷ [], refl, refl)
