use Rattle.std.proofs.Common.{take, length, Contains, ◌≤◌}
use Rattle.sparql_algebra.specs.Merged.{IsJoined}
use Rattle.sparql_algebra.specs.TermSolutions.{id_var}
use Rattle.sparql_algebra.specs.RowSets.{AreExactly}
use Rattle.sparql_algebra.proofs.join.join_rows.Given as goal

abbrev pub invariant-loop-one : goal.invariant-loop-one
invariant-loop-one l = AreExactly (IsJoined id_var (Contains (take l.one-index l.one-items)) (Contains l.right.rows)) l.rows.rows × (length l.rows.rows ≤ l.most)
