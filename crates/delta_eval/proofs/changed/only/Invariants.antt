use Rattle.std.proofs.Common.{take}
use Rattle.sparql_algebra.specs.RowSets.{AreExactly}
use Rattle.delta_eval.specs.Changed.{IsOfOnly}
use Rattle.delta_eval.proofs.changed.only.Given as goal

abbrev pub invariant-loop-row : goal.invariant-loop-row
invariant-loop-row l = AreExactly (IsOfOnly (take l.row-index l.row-items) l.others.rows) l.rest.rows
