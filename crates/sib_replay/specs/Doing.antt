-- What a function of a replay does to its sink and to the counter of rows, and why it stops early.
use Rattle.std.specs.Prelude.{◌≡◌, ℕ, ◌+◌, ◌≤◌, List, Option, Result, Ok, Err}
use Rattle.std.specs.Io.KnownBytes.{Appends}
use Rattle.sib_io.specs.Causes.{Rose, AppendsPart}
use Rattle.sib_replay.specs.declared.ending.Fault.{Fault}
use Rattle.sib_replay.specs.declared.ending.Fault.TheVariants.{NoMemory, WriteFault}

-- what is seen of a sink and of the counter: what was given, the count of faults, and the rows that were read
pub record Seen : Type 0 where
  pub given : Option (List ℕ)
  pub faults : ℕ
  pub steps : ℕ

-- what is seen, from its parts
abbrev pub seen : Option (List ℕ) → ℕ → ℕ → Seen
seen given faults steps = record { given = given; faults = faults; steps = steps }

-- these bytes were given, no fault was counted, and at most so many rows were read
pub record Does (old new : Seen) (bytes : List ℕ) (rows : ℕ) : Type 0 where
  pub given : Appends old.given new.given bytes
  pub faults : new.faults ≡ old.faults
  pub steps : new.steps ≤ old.steps + rows

-- a prefix of these bytes was given, and at most so many rows were read
pub record DoesPart (old new : Seen) (bytes : List ℕ) (rows : ℕ) : Type 0 where
  pub given : AppendsPart old.given new.given bytes
  pub steps : new.steps ≤ old.steps + rows

-- a fault has its cause: out of memory is none of the sink, and a failed write is one
abbrev pub IsCause : Seen → Seen → Fault → Type 0
IsCause old new NoMemory = new.faults ≡ old.faults
IsCause old new WriteFault = Rose old.faults new.faults

-- a call gives all of these bytes, or stops at a fault behind a prefix of them
abbrev pub Acts : {T : Type 0} → Seen → Seen → Result T Fault → List ℕ → ℕ → Type 0
Acts old new (Ok value) bytes rows = Does old new bytes rows
Acts old new (Err fault) bytes rows = DoesPart old new bytes rows × IsCause old new fault
