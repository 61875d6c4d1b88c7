-- A binding is put behind those before it.
use Rattle.std.proofs.Common.{ap, length, arith}
use Rattle.sparql_algebra.proofs.Bindings.{bound_there, before_within}
use Rattle.sparql_algebra.proofs.mapping.Mapping.put.Goals as goal

pub insert-requires : goal.insert-requires
insert-requires c = (omega arith, omega (arith, c.place-at.ensures, before_within c.args.binding.var.0 c.as_slice.result.now, ap length c.as_slice.ensures))

pub invariant_of-self-2 : goal.invariant_of-self-2
invariant_of-self-2 c = (bound_there _ _ _ _ c.args.binding.var c.args.binding.term _ c.self.view_is c.as_slice.ensures c.place-at.ensures c.self.invariant c.requires c.in_ok-insert.ensures.ok).1

pub returns-clause-ok : goal.returns-clause-ok
returns-clause-ok c = (bound_there _ _ _ _ c.args.binding.var c.args.binding.term _ c.self.view_is c.as_slice.ensures c.place-at.ensures c.self.invariant c.requires c.in_ok-insert.ensures.ok).0
