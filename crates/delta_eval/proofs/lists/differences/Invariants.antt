use Rattle.std.proofs.Common.{take}
use Rattle.delta_eval.specs.Changed.{AllInThrees, IsDifference}
use Rattle.delta_eval.proofs.lists.differences.Given as goal

abbrev pub invariant-loop-at : goal.invariant-loop-at
invariant-loop-at l = AllInThrees IsDifference (take l.at l.old) l.changes.items (take l.at l.new)
