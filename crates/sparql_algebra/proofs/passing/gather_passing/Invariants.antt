use Rattle.std.proofs.Common.{take, length, Contains, ◌≤◌}
use Rattle.std.specs.Option.{option_copied}
use Rattle.sparql_algebra.specs.RowSets.{AreExactly, IsOfOrPassing, TellsPassing, RowPasses}
use Rattle.sparql_algebra.proofs.passing.gather_passing.Given as goal

abbrev pub invariant-loop-right : goal.invariant-loop-right
invariant-loop-right g l =
    let passing = RowPasses (g.T.TermTable.terms l.table) (option_copied l.condition) in
    AreExactly (IsOfOrPassing l.initial.rows.rows l.left (Contains (take l.right-index l.others)) passing) l.rows.rows
    × (length l.rows.rows ≤ l.most) × TellsPassing l.found l.left (Contains (take l.right-index l.others)) passing
