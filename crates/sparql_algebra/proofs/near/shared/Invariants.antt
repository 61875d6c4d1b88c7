use Rattle.sparql_algebra.specs.Near.{BindAll}
use Rattle.sparql_algebra.proofs.near.shared.Given as goal

abbrev pub invariant-loop-binding : goal.invariant-loop-binding
invariant-loop-binding l = BindAll l.columns l.left × BindAll l.columns l.right
