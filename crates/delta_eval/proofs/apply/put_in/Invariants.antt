use Rattle.std.proofs.Common.{◌≤◌, length}
use Rattle.delta_eval.proofs.MovedRows.{AreMoving}
use Rattle.delta_eval.proofs.apply.put_in.Given as goal

abbrev pub invariant-loop-row : goal.invariant-loop-row
invariant-loop-row l = record {
  moving : AreMoving l.initial.rows.rows l.initial.added.rows l.rows.rows l.added.rows;
  room : length l.added.rows ≤ l.rows.room;
}

abbrev pub decreases-loop-row : goal.decreases-loop-row
decreases-loop-row l = length l.added.rows
