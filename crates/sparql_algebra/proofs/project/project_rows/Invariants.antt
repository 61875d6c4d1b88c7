use Rattle.std.proofs.Common.{take, Contains}
use Rattle.sparql_algebra.specs.RowSets.{AreExactly, IsProjectedRow}
use Rattle.sparql_algebra.proofs.project.project_rows.Given as goal

abbrev pub invariant-loop-row : goal.invariant-loop-row
invariant-loop-row l = AreExactly (IsProjectedRow l.columns (Contains (take l.row-index l.row-items))) l.projections.rows
