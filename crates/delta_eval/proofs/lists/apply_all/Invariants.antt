use Rattle.std.proofs.Common.{length}
use Rattle.delta_eval.proofs.HalfDone.{AreHalfDone}
use Rattle.delta_eval.proofs.lists.apply_all.Given as goal

abbrev pub invariant-loop-change : goal.invariant-loop-change
invariant-loop-change l = AreHalfDone l.initial.lists.items l.initial.changes.items l.lists.items l.changes.items

abbrev pub decreases-loop-change : goal.decreases-loop-change
decreases-loop-change l = length l.changes.items
