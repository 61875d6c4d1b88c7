use Rattle.std.proofs.Common.{take, length, ◌≤◌}
use Rattle.sparql_algebra.specs.RowSets.{AreExactly, IsOfEither}
use Rattle.sparql_algebra.proofs.union.gather_all.Given as goal

abbrev pub invariant-loop-row : goal.invariant-loop-row
invariant-loop-row l = AreExactly (IsOfEither l.initial.rows.rows (take l.row-index l.row-items)) l.rows.rows × (length l.rows.rows ≤ l.most)
