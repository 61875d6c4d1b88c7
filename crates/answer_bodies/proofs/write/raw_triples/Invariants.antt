-- The triples so far are spelled.
use Rattle.std.proofs.Common.{◌≡◌, take, map}
use Rattle.answer_bodies.specs.Writing.{raw_triple}
use Rattle.answer_bodies.proofs.write.raw_triples.Given as goal

abbrev pub invariant-loop-item : goal.invariant-loop-item
invariant-loop-item l = l.raws ≡ map raw_triple (take l.item-index l.triples)
