-- An index: pairs of a link's number and the key of its slot.
use Rattle.std.specs.Prelude.{◌≡◌, ℕ, ◌+◌, ◌<◌, ◌≤◌, ◌==◌, not, List, [], ◌∷◌, length, slice_index_or, Option, Some, None, if◌then◌else◌, refl}
use Rattle.std.specs.List.{filter}

-- the numbers of pairs rise, and none is below this
abbrev pub RiseFrom : ℕ → List (ℕ × ℕ) → Type 0
RiseFrom least [] = Unit {0}
RiseFrom least (pair ∷ pairs) = (least ≤ pair.0) × RiseFrom (pair.0 + 1) pairs

-- the key that stands with a number, if the number is there
abbrev pub key_of : List (ℕ × ℕ) → ℕ → Option ℕ
key_of [] number = None
key_of (pair ∷ pairs) number = if pair.0 == number then Some pair.1 else key_of pairs number

-- the pairs without that of a number
abbrev pub without : List (ℕ × ℕ) → ℕ → List (ℕ × ℕ)
without pairs number = filter (λ pair. not (pair.0 == number)) pairs

-- the pair at this place has the number, or none has it
abbrev pub StandsAt : List (ℕ × ℕ) → ℕ → Option ℕ → Type 0
StandsAt pairs number None = key_of pairs number ≡ None
StandsAt pairs number (Some place) = (place < length pairs) × ((slice_index_or pairs place (0, 0)).0 ≡ number)

-- of two pairs the second stands with 7
example_key : key_of ((3, 0) ∷ (7, 2) ∷ []) 7 ≡ Some 2
example_key = refl

-- nothing stands with a number that was taken out
example_without : key_of (without ((3, 0) ∷ (7, 2) ∷ []) 7) 7 ≡ None
example_without = refl
