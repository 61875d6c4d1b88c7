-- The bindings so far name columns.
use Rattle.std.proofs.Common.{take}
use Rattle.std.specs.List.{AllByRecursion}
use Rattle.answer_bodies.specs.Reading.{IsKnown}
use Rattle.answer_bodies.proofs.read.are_known.Given as goal

abbrev pub invariant-loop-cell : goal.invariant-loop-cell
invariant-loop-cell l = AllByRecursion (IsKnown l.columns) (take l.cell-index l.cells)
