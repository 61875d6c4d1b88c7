-- Triples that are sorted, of which equal ones are dropped.
use Rattle.std.proofs.lemmas.List.Filters.{dedup_is}
use Rattle.triple_index.proofs.Nets.{dedup_ordered, dedup_same}
use Rattle.triple_index.proofs.change.in_order.Goals as goal

pub returns-clause-ordered : goal.returns-clause-ordered
returns-clause-ordered c = dedup_ordered _ _ c.sort_unstable.ensures.sorted (dedup_is _ _ _ c.dedup.ensures.filtered)

pub returns-clause-same : goal.returns-clause-same
returns-clause-same c = dedup_same _ _ _ c.sort_unstable.ensures.permutation (dedup_is _ _ _ c.dedup.ensures.filtered)
