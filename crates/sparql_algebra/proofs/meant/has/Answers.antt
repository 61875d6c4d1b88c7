use Rattle.sparql_algebra.proofs.Within.{found_within}
use Rattle.sparql_algebra.proofs.meant.has.Goals as goal

pub returns : goal.returns
returns c = let a = c.is_some.ensures in found_within c.args.text.now c.args.part.now c.find.result c.is_some.result c.find.ensures c.is_some.ensures
