use Rattle.std.proofs.Common.{sym, subst}
use Rattle.std.specs.List.Sorted.{IsStrictlySortedBy}
use Rattle.sparql_algebra.specs.Solutions.{var_cmp}
use Rattle.sparql_algebra.proofs.Bindings.{nil_rising}
use Rattle.sparql_algebra.proofs.mapping.Mapping.new.Goals as goal

pub invariant_of-result : goal.invariant_of-result
invariant_of-result c = subst (IsStrictlySortedBy var_cmp) (sym c.new.ensures.items) nil_rising
