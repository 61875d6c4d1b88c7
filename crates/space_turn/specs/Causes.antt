-- Why a call was answered as it was, by the word that its last look found.
use Rattle.std.specs.Prelude.{◌≡◌, ℕ, ◌+◌, ◌*◌, ◌%◌, ◌<◌, Result, Ok, Err}
use Rattle.space_turn.specs.declared.faults.CallFault.{CallFault}
use Rattle.space_turn.specs.declared.faults.CallFault.TheVariants as call_fault
use Rattle.space_turn.specs.declared.faults.TryFault.{TryFault}
use Rattle.space_turn.specs.declared.faults.TryFault.TheVariants as try_fault

-- the turn was free, and the history had room for a call
abbrev pub HasRoom : ℕ → Type 0
HasRoom word = (word % 2 ≡ 0) × (word < 9223372036854775808)

-- the turn was free, and the history has this many calls, which are as many as it may have
abbrev pub IsFull : ℕ → ℕ → Type 0
IsFull count word = (word ≡ 2 * count) × (count ≡ 4611686018427387904)

-- another seat held the turn, over a history of this many calls
abbrev pub IsHeld : ℕ → ℕ → Type 0
IsHeld count word = word ≡ 2 * count + 1

module _ {R : Type 0} where
  abbrev pub CallCause : Result R CallFault → ℕ → Type 0
  CallCause (Ok reply) word = HasRoom word
  CallCause (Err (call_fault.Worn count)) word = IsFull count word
  CallCause (Err call_fault.NoMemory) word = HasRoom word

  abbrev pub TryCause : Result R TryFault → ℕ → Type 0
  TryCause (Ok reply) word = HasRoom word
  TryCause (Err (try_fault.Busy count)) word = IsHeld count word
  TryCause (Err (try_fault.Worn count)) word = IsFull count word
  TryCause (Err try_fault.NoMemory) word = HasRoom word

  -- the answer is not out of memory
  abbrev pub CallHadMemory : Result R CallFault → Type 0
  CallHadMemory (Ok reply) = Unit {0}
  CallHadMemory (Err (call_fault.Worn count)) = Unit {0}
  CallHadMemory (Err call_fault.NoMemory) = ⊥

  -- the answer is not out of memory
  abbrev pub TryHadMemory : Result R TryFault → Type 0
  TryHadMemory (Ok reply) = Unit {0}
  TryHadMemory (Err (try_fault.Busy count)) = Unit {0}
  TryHadMemory (Err (try_fault.Worn count)) = Unit {0}
  TryHadMemory (Err try_fault.NoMemory) = ⊥
