use Rattle.std.proofs.Common.{◌≡◌, take}
use Rattle.sparql_algebra.specs.Projected.{projected}
use Rattle.sparql_algebra.proofs.mapping.Mapping.project.Given as goal

abbrev pub invariant-loop-binding : goal.invariant-loop-binding
invariant-loop-binding l = l.bindings.items ≡ projected l.columns (take l.binding-index l.binding-items)
