-- The cells so far are read.
use Rattle.std.proofs.Common.{take}
use Rattle.std.specs.List.{AllZip}
use Rattle.answer_bodies.specs.Reading.{IsCellOf}
use Rattle.answer_bodies.proofs.read.row.Given as goal

abbrev pub invariant-loop-name : goal.invariant-loop-name
invariant-loop-name l = AllZip (IsCellOf l.cells) (take l.name-index l.columns) l.row
