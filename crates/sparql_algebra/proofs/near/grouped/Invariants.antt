use Rattle.std.proofs.Common.{take}
use Rattle.std.specs.HashMap.{get}
use Rattle.sparql_algebra.specs.Solutions.{solution_eq}
use Rattle.sparql_algebra.specs.Near.{AreGrouped}
use Rattle.sparql_algebra.proofs.near.grouped.Given as goal

abbrev pub invariant-loop-row : goal.invariant-loop-row
invariant-loop-row l = AreGrouped l.columns (take l.row-index l.rows) (get solution_eq l.groups)
