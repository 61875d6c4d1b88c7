use Rattle.std.proofs.Common.{◌≡◌, ◌≤◌, ◌+◌, ◌++◌, length}
use Rattle.triple_index.specs.Fits.{fits}
use Rattle.triple_index.specs.Graphs.{without}
use Rattle.pattern_join.proofs.matching.read_rows.Given as goal

abbrev pub invariant-loop-row : goal.invariant-loop-row
invariant-loop-row g l = record {
  read : l.into ++ without fits l.rows l.earlier ≡ l.fn.into ++ without fits l.fn.rows l.earlier;
  narrow : length l.into ≤ 65536;
  counted : l.steps + length l.rows ≡ l.fn.steps + length l.fn.rows;
}

abbrev pub decreases-loop-row : goal.decreases-loop-row
decreases-loop-row g l = length l.rows
