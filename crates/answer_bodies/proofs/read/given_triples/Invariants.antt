-- The triples so far are read.
use Rattle.std.proofs.Common.{take}
use Rattle.std.specs.List.{AllZip}
use Rattle.answer_bodies.specs.Reading.{IsTripleOf}
use Rattle.answer_bodies.proofs.read.given_triples.Given as goal

abbrev pub invariant-loop-raw : goal.invariant-loop-raw
invariant-loop-raw l = AllZip IsTripleOf (take l.raw-index l.raws) l.given
