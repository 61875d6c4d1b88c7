-- The copies so far are of the items so far.
use Rattle.std.proofs.Common.{◌≡◌, take}
use Rattle.answer_bodies.proofs.fold.copies.Given as goal

abbrev pub invariant-loop-item : goal.invariant-loop-item
invariant-loop-item g l = l.copies.items ≡ take l.item-index l.items
