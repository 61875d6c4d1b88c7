use Rattle.std.proofs.Common.{◌≡◌, vec_capacity}
use Rattle.triple_index.proofs.Closing.{IsClosing}
use Rattle.triple_index.proofs.list.close_up.Given as goal

abbrev pub invariant-loop-at : goal.invariant-loop-at
invariant-loop-at l = record {
  closing : IsClosing l.fn.triples.items l.triples.items l.removed l.left l.kept l.at;
  capacity : vec_capacity l.triples ≡ vec_capacity l.fn.triples;
}
