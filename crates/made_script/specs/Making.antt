-- Why the writing of a generated script ends, and what it did to the sink's count of faults.
use Rattle.std.specs.Prelude.{◌≡◌, ℕ, ◌≤◌, Result, Ok, Err}
use Rattle.sib_io.specs.Causes.{Rose}
use Rattle.ssap_encode.specs.declared.fault.EncodeFault.{EncodeFault}
use Rattle.ssap_encode.specs.declared.fault.EncodeFault.TheVariants.{WriteFault, NoMemory}

-- the sink failed only where its count of faults rose, and out of memory is no fault of the sink
abbrev pub HasMakingCause : ℕ → ℕ → Result (Unit {0}) EncodeFault → Type 0
HasMakingCause before now (Ok done) = now ≡ before
HasMakingCause before now (Err WriteFault) = (before ≤ now) × Rose before now
HasMakingCause before now (Err NoMemory) = now ≡ before
