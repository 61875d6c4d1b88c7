-- What a step of a report does to the sink.
use Rattle.std.specs.Prelude.{◌≡◌, ℕ, List, Option, Result, Ok, Err}
use Rattle.std.specs.Io.KnownBytes.{Appends}
use Rattle.sib_io.specs.Causes.{Rose, AppendsPart}
use Rattle.stream_report.specs.declared.ending.Ending.{Ending}
use Rattle.stream_report.specs.declared.ending.Ending.TheVariants.{Done, Stopped, ReadFault, WriteFault, NoMemory, Spent}

-- what is seen of the sink: what it was given, and its count of faults
pub record Outlet : Type 0 where
  pub given : Option (List ℕ)
  pub faults : ℕ

-- what is seen, from its parts
abbrev pub outlet : Option (List ℕ) → ℕ → Outlet
outlet given faults = record { given = given; faults = faults }

-- these bytes were given, and no fault was counted
pub record Gives (old new : Outlet) (bytes : List ℕ) : Type 0 where
  pub given : Appends old.given new.given bytes
  pub faults : new.faults ≡ old.faults

-- a step fails for its cause: out of memory is no fault of the sink, and a failed write is one
abbrev pub IsCause : Outlet → Outlet → Ending → Type 0
IsCause old new Done = ⊥
IsCause old new Stopped = ⊥
IsCause old new ReadFault = ⊥
IsCause old new WriteFault = Rose old.faults new.faults
IsCause old new NoMemory = new.faults ≡ old.faults
IsCause old new Spent = ⊥

-- a step gives all of these bytes, or fails behind a prefix of them
abbrev pub Does : Outlet → Outlet → Result (Unit {0}) Ending → List ℕ → Type 0
Does old new (Ok value) bytes = Gives old new bytes
Does old new (Err ending) bytes = AppendsPart old.given new.given bytes × IsCause old new ending
