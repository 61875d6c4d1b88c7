use Rattle.std.proofs.Common.{take, length, Contains, ◌≤◌}
use Rattle.sparql_algebra.specs.RowSets.{AreExactly, IsFiltered}
use Rattle.sparql_algebra.proofs.filter.filter_rows.Given as goal

abbrev pub invariant-loop-row : goal.invariant-loop-row
invariant-loop-row g l =
    AreExactly (IsFiltered (g.T.TermTable.terms l.table) l.condition (Contains (take l.row-index l.row-items))) l.kept.rows × (length l.kept.rows ≤ l.most)
