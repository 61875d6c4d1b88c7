-- The bytes say the characters, so that there are such characters gives them.
use Rattle.std.proofs.Common.{◌≡◌, ℕ, List, sym, ◌∙◌}
use Rattle.std.specs.List.{AllByRecursion, AllByRecursion-prop}
use Rattle.std.specs.Str.{encode_utf8_all}
use Rattle.std.proofs.lemmas.Str.{encodes_same}
use Rattle.m3_terms.specs.Text.{is_allowed, IsAllowed, IsText}
use mathlib.Core.Bool.{true, Bool-set}
use mathlib.Core.Logic.{∥∥₁_elim}
use mathlib.Core.List.{is_set}
use mathlib.Core.HLevel.{Σ_prop, Σ_prop_path, hedberg}
use native.Mathlib.Decide.{ℕ_discrete}

-- that a character is allowed has one proof
IsAllowed-prop : (c : ℕ) → IsProp (IsAllowed c)
IsAllowed-prop c = Bool-set (is_allowed c) true

-- a text has one list of characters
spelling-prop : (bytes : List ℕ) → IsProp ((cs : List ℕ) × (AllByRecursion IsAllowed cs × (encode_utf8_all cs ≡ bytes)))
spelling-prop bytes p q =
    Σ_prop_path (λ cs. Σ_prop (AllByRecursion-prop IsAllowed IsAllowed-prop cs) (λ _. is_set (hedberg ℕ_discrete) (encode_utf8_all cs) bytes))
    (encodes_same p.0 q.0 (p.1.1 ∙ sym q.1.1))

-- bytes that merely are a text are one
pub IsText-had : (bytes : List ℕ) → ∥ IsText bytes ∥₁ → IsText bytes
IsText-had bytes h =
    let had = ∥∥₁_elim h (spelling-prop bytes) (λ text. (text.0, (text.1, text.2))) in
    (had.0, had.1.0, had.1.1)
