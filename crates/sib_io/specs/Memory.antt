-- Sources and sinks in memory, whose calls fail where a list says so.
use Rattle.std.specs.Prelude.{◌≡◌, ℕ, ◌+◌, ◌-◌, ◌≤◌, ◌<◌, ◌==◌, min, Bool, true, false, List, [], ◌∷◌, ◌++◌, length, take, drop, Result, Ok, Err, refl}
use Rattle.std.specs.List.{list_any}
use Rattle.m3_terms.specs.Counts.{one_more}

-- which calls are to fail, counted from 1; how many were made, and how many failed
pub record Plan : Type 0 where
  pub failing : List ℕ
  pub calls : ℕ
  pub faults : ℕ

-- whether the next call is to fail
abbrev pub fails_next : Plan → Bool
fails_next plan = list_any (λ call. call == one_more plan.calls) plan.failing

-- a call was made and counted
abbrev pub made : Plan → Plan
made plan = record plan { calls = one_more plan.calls }

-- a call was made and failed
abbrev pub failed : Plan → Plan
failed plan = record plan { calls = one_more plan.calls; faults = one_more plan.faults }

-- a source in memory: what is left, the most that a read gives, and which calls fail
pub record Held : Type 0 where
  pub left : List ℕ
  pub piece : ℕ
  pub plan : Plan

-- how many bytes a read gives
abbrev pub read_count : Held → ℕ → ℕ
read_count source room = min (min room source.piece) (length source.left)

-- a read of a source in memory fails exactly where its plan says, and else gives as much as it may
abbrev pub ReadsHeld : Bool → Held → ℕ → {E : Type 0} → Result ℕ E → Held → Type 0
ReadsHeld fails old room (Ok count) new = (fails ≡ false) × (count ≡ read_count old room)
    × (new ≡ record old { left = drop count old.left; plan = made old.plan })
ReadsHeld fails old room (Err fault) new = (fails ≡ true) × (new ≡ record old { plan = failed old.plan })

-- a sink in memory: what it was given, how many bytes it can hold, and which calls fail
pub record Filled : Type 0 where
  pub bytes : List ℕ
  pub room : ℕ
  pub plan : Plan

-- the longest prefix of some bytes that a sink in memory still has room for
abbrev pub fitting : Filled → List ℕ → List ℕ
fitting sink bytes = take (sink.room - length sink.bytes) bytes

-- a write to a sink in memory is granted exactly where its plan lets it pass and the bytes fit; where the plan fails it, it takes nothing,
-- and where the bytes do not fit, it takes those that do
abbrev pub WritesFilled : Bool → Filled → List ℕ → {T E : Type 0} → Result T E → Filled → Type 0
WritesFilled fails old bytes (Ok done) new = (fails ≡ false) × (length old.bytes + length bytes ≤ old.room)
    × (new ≡ record old { bytes = old.bytes ++ bytes; plan = made old.plan })
WritesFilled true old bytes (Err fault) new = new ≡ record old { plan = failed old.plan }
WritesFilled false old bytes (Err fault) new = (old.room < length old.bytes + length bytes)
    × (new ≡ record old { bytes = old.bytes ++ fitting old bytes; plan = failed old.plan })

-- a flush of a sink in memory fails exactly where its plan says
abbrev pub FlushesFilled : Bool → Filled → {T E : Type 0} → Result T E → Filled → Type 0
FlushesFilled fails old (Ok done) new = (fails ≡ false) × (new ≡ record old { plan = made old.plan })
FlushesFilled fails old (Err fault) new = (fails ≡ true) × (new ≡ record old { plan = failed old.plan })

-- a sink with room for five bytes takes two of three where it holds three
two_fit : fitting (record { bytes = 1 ∷ 2 ∷ 3 ∷ []; room = 5; plan = record { failing = []; calls = 0; faults = 0 } }) (4 ∷ 5 ∷ 6 ∷ []) ≡ 4 ∷ 5 ∷ []
two_fit = refl

-- the second call is to fail, and one was made
second_fails : fails_next (record { failing = 2 ∷ []; calls = 1; faults = 0 }) ≡ true
second_fails = refl
