-- No row comes twice, so the one that was taken out is not here any more.
use Rattle.std.proofs.Common.{refl}
use Rattle.std.proofs.lemmas.Option.{IfSome_then}
use Rattle.sparql_algebra.proofs.Removed.{without}
use Rattle.sparql_algebra.proofs.rows.IdRows.pop.Goals as goal

pub returns-clause-once : goal.returns-clause-once
returns-clause-once c = IfSome_then c.pop.result c.pop.ensures.updates (λ row step there. ((without c.self.inside.rows.keys c.pop.new.self.keys row step.0 row).0 there).1 refl)
