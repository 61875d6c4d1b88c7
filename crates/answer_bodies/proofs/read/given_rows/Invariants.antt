-- The rows so far are read.
use Rattle.std.proofs.Common.{take}
use Rattle.std.specs.List.{AllZip}
use Rattle.answer_bodies.specs.Reading.{IsRowOf}
use Rattle.answer_bodies.proofs.read.given_rows.Given as goal

abbrev pub invariant-loop-cells : goal.invariant-loop-cells
invariant-loop-cells l = AllZip (IsRowOf l.columns) (take l.cells-index l.raws) l.given
