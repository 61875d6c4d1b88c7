-- Tables that grow.
use Rattle.std.specs.Prelude.{◌≡◌, ℕ, Option, Some}
use Rattle.m3_terms.specs.declared.term.Term.{Term}

-- what a number means in the old table it means in the new one
abbrev pub Extends : (ℕ → Option Term) → (ℕ → Option Term) → Type 0
Extends old new = (n : ℕ) (term : Term) → old n ≡ Some term → new n ≡ Some term
