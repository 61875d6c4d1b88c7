-- Bytes that are gathered on their way to a sink. Of a sink we see the bytes that it was given and its count of faults.
use Rattle.std.specs.Prelude.{◌≡◌, ℕ, ◌≤◌, List, ◌++◌, Option}
use Rattle.std.specs.Io.KnownBytes.{Appends}
use Rattle.sib_io.specs.Causes.{Rose, AppendsPart}

-- the sink was given a part of what was held and of these bytes, the rest is held, and no fault was counted
pub record Gathers (old new : Option (List ℕ)) (faults now : ℕ) (before after bytes : List ℕ) : Type 0 where
  pub part : List ℕ
  pub given : Appends old new part
  pub held : before ++ bytes ≡ part ++ after
  pub kept : now ≡ faults

-- the sink was given a prefix of what was held and of these bytes, and then it failed
pub record Fails (old new : Option (List ℕ)) (faults now : ℕ) (before bytes : List ℕ) : Type 0 where
  pub given : AppendsPart old new (before ++ bytes)
  pub rose : Rose faults now
  pub later : faults ≤ now
