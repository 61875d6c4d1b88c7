-- The cells so far are spelled.
use Rattle.std.proofs.Common.{◌≡◌, take}
use Rattle.answer_bodies.specs.Writing.{raw_row}
use Rattle.answer_bodies.proofs.write.row.Given as goal

abbrev pub invariant-loop-i : goal.invariant-loop-i
invariant-loop-i l = l.raw ≡ raw_row (take l.i l.columns) (take l.i l.cells)
