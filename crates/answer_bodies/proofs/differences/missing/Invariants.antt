-- The copies so far are of the items so far that are not among the others.
use Rattle.std.proofs.Common.{◌≡◌, take}
use Rattle.answer_bodies.specs.Lists.{without}
use Rattle.answer_bodies.proofs.differences.missing.Given as goal

abbrev pub invariant-loop-item : goal.invariant-loop-item
invariant-loop-item g l = l.missing ≡ without g.T.Ord.cmp (take l.item-index l.items) l.others
