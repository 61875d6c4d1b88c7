-- What a reader says of the start of some bytes: the one value there with what is left, or that there is none.
use Rattle.std.specs.Prelude.{◌≡◌, ℕ, List, Option, Some, None, ⊤}
use Rattle.std.specs.Borrow.{Bor}
use Rattle.ssap_grammar.specs.Front.{Front}

-- whatever follows
abbrev pub Whatever : List ℕ → Type 0
Whatever bytes = ⊤

-- the value stands at the start, and no other value or rest does with what Follow says behind it
pub record IsOnly {A : Type 0} (Reads : A → Front) (Follow : List ℕ → Type 0) (bytes : List ℕ) (value : A) (rest : List ℕ) : Type 0 where
  pub reads : Reads value bytes rest
  pub only : (other : A) (left : List ℕ) → Reads other bytes left → Follow left → (other ≡ value) × (left ≡ rest)

-- no value stands at the start with what Follow says behind it
abbrev pub IsNone : {A : Type 0} → (A → Front) → (List ℕ → Type 0) → List ℕ → Type 0
IsNone {A = A} Reads Follow bytes = (other : A) (left : List ℕ) → Reads other bytes left → ¬ (Follow left)

-- the value that was found is the only one, and where none was found there is none
abbrev pub Told : {A : Type 0} → (A → Front) → (List ℕ → Type 0) → List ℕ → Option (A × Bor (List ℕ)) → Type 0
Told Reads Follow bytes None = IsNone Reads Follow bytes
Told Reads Follow bytes (Some found) = IsOnly Reads Follow bytes found.0 found.1.now

-- the same of what has no value
abbrev pub Passed : Front → (List ℕ → Type 0) → List ℕ → Option (Bor (List ℕ)) → Type 0
Passed Reads Follow bytes None = IsNone {A = ⊤} (λ _. Reads) Follow bytes
Passed Reads Follow bytes (Some rest) = IsOnly {A = ⊤} (λ _. Reads) Follow bytes tt rest.now
