-- Why a call to the outside failed, and what it did to the bytes there.
use Rattle.std.specs.Prelude.{◌≡◌, ℕ, ◌≤◌, List, ◌++◌, MatchResult, OnOk, OnErr, Option, Result}
use Rattle.std.specs.Io.KnownBytes.{Appends}
use Rattle.m3_terms.specs.Counts.{one_more}

-- a count of faults rose, or stands at the greatest u64
abbrev pub Rose : ℕ → ℕ → Type 0
Rose before now = one_more before ≤ now

-- a call fails only where the count of faults rose in it, and a call that succeeds counts none; the count never falls
pub record HasCause {T E : Type 0} (before now : ℕ) (result : Result T E) : Type 0 where
  pub later : before ≤ now
  pub failed : OnErr result (Rose before now)
  pub kept : OnOk result (now ≡ before)

-- known bytes grow by a prefix of these
abbrev pub AppendsPart : Option (List ℕ) → Option (List ℕ) → List ℕ → Type 0
AppendsPart old new bytes = (part : List ℕ) × (rest : List ℕ) × (part ++ rest ≡ bytes) × Appends old new part

-- a write appends all of the bytes, or a prefix of them where it fails
abbrev pub Writes : {T E : Type 0} → Option (List ℕ) → Option (List ℕ) → Result T E → List ℕ → Type 0
Writes old new result bytes = MatchResult result (λ _. Appends old new bytes) (λ _. AppendsPart old new bytes)
