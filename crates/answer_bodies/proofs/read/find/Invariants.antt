-- What is found is found among the bindings so far.
use Rattle.std.proofs.Common.{take}
use Rattle.answer_bodies.specs.Reading.{named}
use Rattle.answer_bodies.specs.Found.{IsFound}
use Rattle.answer_bodies.proofs.read.find.Given as goal

abbrev pub invariant-loop-cell : goal.invariant-loop-cell
invariant-loop-cell l = IsFound (named l.name (take l.cell-index l.cells)) l.found
