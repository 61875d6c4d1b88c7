-- The copies so far are of the cells so far.
use Rattle.std.proofs.Common.{◌≡◌, take}
use Rattle.kp_client.proofs.rows.copied.Given as goal

abbrev pub invariant-loop-cell : goal.invariant-loop-cell
invariant-loop-cell l = l.copied ≡ take l.cell-index l.row
