-- Connections that wait in memory, and jobs that are kept until they are run.
use Rattle.std.proofs.Common.{arith}
use Rattle.std.specs.Prelude.{◌≡◌, ℕ, ◌≤◌, ◌<◌, Bool, true, false, List, [], ◌∷◌, ◌++◌, length, Option, Some, None, Result, Ok, Err, refl}
use Rattle.m3_terms.specs.Counts.{one_more}
use Rattle.sib_io.specs.Memory.{Plan, Held, Filled, made, failed}

-- connections in memory: those that wait, each with what it sends and what it is sent, and which calls fail
pub record Lined : Type 0 where
  pub waiting : List (Held × Filled)
  pub plan : Plan

-- a call fails exactly where its plan says, and else gives the first connection that waits, or none where none waits
abbrev pub NextLined : Bool → Lined → {E : Type 0} → Result (Option (Held × Filled)) E → Lined → Type 0
NextLined fails old (Ok (Some pair)) new = (fails ≡ false) × (old.waiting ≡ pair ∷ new.waiting) × (new.plan ≡ made old.plan)
NextLined fails old (Ok None) new = (fails ≡ false) × (old.waiting ≡ []) × (new ≡ record old { plan = made old.plan })
NextLined fails old (Err fault) new = (fails ≡ true) × (new ≡ record old { plan = failed old.plan })

-- jobs that are kept in order, for how many there is room, and how many did not fit
pub record Later (J : Type 0) : Type 0 where
  pub kept : List J
  pub room : ℕ
  pub faults : ℕ

-- a job is kept exactly where there is room for it, and else counted as a fault
abbrev pub StartsLater : {J : Type 0} → Later J → J → {T E : Type 0} → Result T E → Later J → Type 0
StartsLater old job (Ok done) new = (length old.kept < old.room) × (new ≡ record old { kept = old.kept ++ job ∷ [] })
StartsLater old job (Err fault) new = (old.room ≤ length old.kept) × (new ≡ record old { faults = one_more old.faults })

-- a job that fits behind another is kept behind it
two_kept : StartsLater {J = ℕ} (record { kept = 1 ∷ []; room = 2; faults = 0 }) 2 {T = ℕ} {E = ℕ} (Ok 0) (record { kept = 1 ∷ 2 ∷ []; room = 2; faults = 0 })
two_kept = (omega arith, refl)
