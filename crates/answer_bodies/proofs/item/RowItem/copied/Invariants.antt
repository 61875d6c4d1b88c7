-- The cells so far are copied.
use Rattle.std.proofs.Common.{◌≡◌, take}
use Rattle.answer_bodies.proofs.item.RowItem.copied.Given as goal

abbrev pub invariant-loop-cell : goal.invariant-loop-cell
invariant-loop-cell l = l.copied ≡ take l.cell-index l.self
