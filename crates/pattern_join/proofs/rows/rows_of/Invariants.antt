use Rattle.std.proofs.Common.{◌≡◌, map, take}
use Rattle.pattern_join.specs.Rows.{row}
use Rattle.pattern_join.proofs.rows.rows_of.Given as goal

abbrev pub invariant-loop-triple : goal.invariant-loop-triple
invariant-loop-triple l = l.rows.rows ≡ map row (take l.triple-index l.triple-items)
