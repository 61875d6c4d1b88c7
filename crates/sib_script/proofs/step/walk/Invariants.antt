use Rattle.std.proofs.Common.{take}
use Rattle.sib_script.specs.Steps.{Walks}
use Rattle.sib_script.proofs.step.walk.Given as goal

abbrev pub invariant-loop-at : goal.invariant-loop-at
invariant-loop-at l = Walks l.fn.start (take l.at l.bytes) l.step
