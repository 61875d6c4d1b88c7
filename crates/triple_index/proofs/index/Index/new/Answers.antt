use Rattle.triple_index.proofs.Nets.{none_ordered}
use Rattle.triple_index.proofs.index.Index.new.Goals as goal

pub invariant_of-result : goal.invariant_of-result
invariant_of-result c = none_ordered _ c.new.ensures.items
