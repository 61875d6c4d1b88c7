-- Some of the bindings by rising variable rise too.
use Rattle.std.proofs.Common.{sym, subst, take}
use Rattle.std.proofs.lemmas.List.Kept.{IsStrictlySortedBy-filter}
use Rattle.std.specs.List.Sorted.{IsStrictlySortedBy}
use Rattle.sparql_algebra.specs.Solutions.{var_cmp}
use Rattle.sparql_algebra.specs.TermSolutions.{id_var}
use Rattle.sparql_algebra.specs.Projected.{is_column}
use Rattle.sparql_algebra.proofs.Lookups.{rising_take}
use Rattle.sparql_algebra.proofs.mapping.Mapping.project.Goals as goal

pub invariant_of-result : goal.invariant_of-result
invariant_of-result c =
    let items = c.as_slice-binding-items.result.now in
    let i = c.loop-binding.binding-index in
    subst (IsStrictlySortedBy var_cmp) (sym c.loop-binding.invariant)
    (IsStrictlySortedBy-filter var_cmp (λ b. is_column c.args.columns.now b.var) (take i items)
    (rising_take id_var items i (subst (IsStrictlySortedBy var_cmp) (sym c.as_slice-binding-items.ensures) c.self.invariant)))
