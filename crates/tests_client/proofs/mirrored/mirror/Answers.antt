-- No triples are in order.
use Rattle.std.proofs.Common.{subst, sym}
use Rattle.std.specs.List.Sorted.{IsStrictlySortedBy}
use Rattle.m3_terms.specs.Order.{triple_cmp}
use Rattle.tests_client.proofs.mirrored.mirror.Goals as goal

pub start-requires-clause-order : goal.start-requires-clause-order
unfolding IsStrictlySortedBy
start-requires-clause-order c = subst (IsStrictlySortedBy triple_cmp) (sym c.new.ensures) tt
