-- The rows so far are spelled.
use Rattle.std.proofs.Common.{◌≡◌, take, map}
use Rattle.answer_bodies.specs.Writing.{raw_row}
use Rattle.answer_bodies.proofs.write.rows.Given as goal

abbrev pub invariant-loop-cells : goal.invariant-loop-cells
invariant-loop-cells l = l.raws ≡ map (raw_row l.columns) (take l.cells-index l.rows)
