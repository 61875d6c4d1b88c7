use Rattle.std.proofs.Common.{sym, subst}
use Rattle.std.specs.List.Sorted.{IsStrictlySortedBy}
use Rattle.sparql_algebra.specs.Solutions.{var_cmp}
use Rattle.sparql_algebra.proofs.Bindings.{three_rising}
use Rattle.sparql_algebra.proofs.mapping.Mapping.of_three.Goals as goal

pub invariant_of-result : goal.invariant_of-result
invariant_of-result c = subst (IsStrictlySortedBy var_cmp) (sym c.in_ok-from_slice.ensures.ok) (three_rising c.args.subject c.args.predicate c.args.object)
