use Rattle.std.proofs.Common.{◌≤◌, take}
use Rattle.sparql_algebra.specs.RowSets.{AreExactly}
use Rattle.delta_eval.specs.Changed.{IsOfOnly}
use Rattle.delta_eval.proofs.apply.take_out.Given as goal

abbrev pub invariant-loop-row : goal.invariant-loop-row
invariant-loop-row l = record {
  rows : AreExactly (IsOfOnly l.initial.rows.rows (take l.row-index l.row-items)) l.rows.rows;
  room : l.initial.rows.room ≤ l.rows.room;
}
