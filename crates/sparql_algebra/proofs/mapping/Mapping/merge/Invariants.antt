use Rattle.std.proofs.Common.{◌≡◌, take}
use Rattle.sparql_algebra.specs.TermSolutions.{id_merge}
use Rattle.sparql_algebra.proofs.mapping.Mapping.merge.Given as goal

abbrev pub invariant-loop-binding : goal.invariant-loop-binding
invariant-loop-binding l = l.merged ≡ id_merge (take l.binding-index l.binding-items) l.other
