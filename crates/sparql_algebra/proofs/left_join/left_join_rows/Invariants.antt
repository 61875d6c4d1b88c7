use Rattle.std.proofs.Common.{take, length, Contains, ◌≤◌}
use Rattle.std.specs.Option.{option_copied}
use Rattle.sparql_algebra.specs.Merged.{IsLeftJoined}
use Rattle.sparql_algebra.specs.TermSolutions.{id_var}
use Rattle.sparql_algebra.specs.RowSets.{AreExactly, RowPasses}
use Rattle.sparql_algebra.proofs.left_join.left_join_rows.Given as goal

abbrev pub invariant-loop-one : goal.invariant-loop-one
invariant-loop-one g l =
    AreExactly (IsLeftJoined id_var (Contains (take l.one-index l.one-items)) (Contains l.right.rows) (RowPasses (g.T.TermTable.terms l.table) (option_copied l.condition))) l.rows.rows
    × (length l.rows.rows ≤ l.most)
