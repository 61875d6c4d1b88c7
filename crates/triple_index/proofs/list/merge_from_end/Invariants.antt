use Rattle.std.proofs.Common.{◌+◌, ◌-◌, length, take}
use Rattle.triple_index.specs.IdOrderLaws.{id_triple_cmp_total, id_triple_one}
use Rattle.triple_index.proofs.Merging.{IsMerging}
use Rattle.triple_index.proofs.list.merge_from_end.Given as goal

abbrev pub invariant-loop-right : goal.invariant-loop-right
invariant-loop-right l = IsMerging id_triple_cmp_total id_triple_one (take (length l.fn.triples - length l.inserted) l.fn.triples) l.inserted l.triples l.left l.right

abbrev pub decreases-loop-right : goal.decreases-loop-right
decreases-loop-right l = l.left + l.right
