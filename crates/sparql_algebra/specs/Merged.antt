-- Bindings by rising variable, whatever a variable is bound to: lookup, compatibility, merge, Join and LeftJoin (SPARQL 1.1, sections 18.3 and 18.5).
-- A binding is of any type B, and `var_of` tells its variable; so solutions of terms and of numbers share these words.
use Rattle.std.specs.Prelude.{◌≡◌, ◌⊎◌, ℕ, List, [], ◌∷◌, find, Option, Some, nat_eq, fold, refl}
use Rattle.std.specs.List.Sorted.{IsStrictlySortedBy}
use Rattle.std.specs.Ordering.{nat_cmp, on}
use Rattle.std.specs.declared.cmp.Ordering.{Ordering}
use Rattle.m3_terms.specs.Inserted.{inserted}

-- bindings are ordered by their variables
abbrev pub by_var : {B : Type 0} → (B → ℕ) → B → B → Ordering
by_var var_of = on var_of nat_cmp

-- the variables of the bindings rise, so no variable is bound twice
abbrev pub IsRising : {B : Type 0} → (B → ℕ) → List B → Type 0
IsRising var_of solution = IsStrictlySortedBy (by_var var_of) solution

-- the binding of a variable, or none where it is unbound
abbrev pub lookup : {B : Type 0} → (B → ℕ) → List B → ℕ → Option B
lookup var_of solution var = find (λ b. nat_eq (var_of b) var) solution

-- two solutions are compatible where each variable that both bind is bound alike in both
abbrev pub AreCompatible : {B : Type 0} → (B → ℕ) → List B → List B → Type 0
AreCompatible {B} var_of left right =
    (var : ℕ) (b c : B) → lookup var_of left var ≡ Some b → lookup var_of right var ≡ Some c → b ≡ c

-- the merge of two solutions has the bindings of both: those of the left one are put among those of the right one
abbrev pub merged : {B : Type 0} → (B → ℕ) → List B → List B → List B
merged var_of left right = fold (λ solution b. inserted (by_var var_of) b solution) right left

-- a solution is the merge of a compatible pair, one from each side (Join, section 18.5)
pub record IsJoined {B : Type 0} (var_of : B → ℕ) (Left Right : List B → Type 0) (solution : List B) : Type 0 where
  pub left : List B
  pub right : List B
  pub in_left : Left left
  pub in_right : Right right
  pub compatible : AreCompatible var_of left right
  pub merges : solution ≡ merged var_of left right

-- no solution of the right side that is compatible with a left one passes a condition in the merge of the two
abbrev pub IsAlone : {B : Type 0} → (B → ℕ) → (List B → Type 0) → (List B → Type 0) → List B → Type 0
IsAlone {B} var_of Right Passes left =
    (right : List B) → Right right → AreCompatible var_of left right → Passes (merged var_of left right) → ⊥

-- a solution is the merge of a compatible pair that passes a condition, or a left one for which there is no such merge
-- (LeftJoin, section 18.5)
abbrev pub IsLeftJoined : {B : Type 0} → (B → ℕ) → (List B → Type 0) → (List B → Type 0) → (List B → Type 0) → List B → Type 0
IsLeftJoined var_of Left Right Passes solution =
    (IsJoined var_of Left Right solution × Passes solution) ⊎ (Left solution × IsAlone var_of Right Passes solution)

-- the merge of bindings of 1 and 4 with one of 2 binds 1, 2 and 4
example_between : merged (λ n. n) (1 ∷ 4 ∷ []) (2 ∷ []) ≡ 1 ∷ 2 ∷ 4 ∷ []
example_between = refl

-- a binding that both have stands once
example_shared : merged (λ n. n) (1 ∷ 4 ∷ []) (4 ∷ 7 ∷ []) ≡ 1 ∷ 4 ∷ 7 ∷ []
example_shared = refl
