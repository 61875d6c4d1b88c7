use Rattle.std.proofs.Common.{◌≡◌, ◌+◌, ◌++◌, length}
use Rattle.triple_index.proofs.change.read_rows.Given as goal

abbrev pub invariant-loop-row : goal.invariant-loop-row
invariant-loop-row g l = record {
  read : l.into.items ++ l.rows ≡ l.fn.into.items ++ l.fn.rows;
  counted : l.steps + length l.rows ≡ l.fn.steps + length l.fn.rows;
}

abbrev pub decreases-loop-row : goal.decreases-loop-row
decreases-loop-row g l = length l.rows
