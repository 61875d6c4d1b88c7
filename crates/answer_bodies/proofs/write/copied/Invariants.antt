-- The columns so far are copied.
use Rattle.std.proofs.Common.{◌≡◌, take}
use Rattle.answer_bodies.proofs.write.copied.Given as goal

abbrev pub invariant-loop-name : goal.invariant-loop-name
invariant-loop-name l = l.copied ≡ take l.name-index l.columns
