-- What putting bytes somewhere does.
use Rattle.std.specs.Prelude.{ℕ, List, Result, MatchResult}

-- all of the bytes went out between two states, or a piece of them was refused
abbrev pub Sends : {S E : Type 0} → (S → S → List ℕ → Type 0) → (S → S → List ℕ → Type 0) → S → S → Result (Unit {0}) E → List ℕ → Type 0
Sends puts stops old new result bytes = MatchResult result (λ _. puts old new bytes) (λ _. stops old new bytes)
