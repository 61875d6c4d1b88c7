use Rattle.link_table.proofs.RisingPairs.{RiseFrom-push}
use Rattle.link_table.proofs.index.Index.push.Goals as goal

pub invariant_of-self-2 : goal.invariant_of-self-2
invariant_of-self-2 c = rw c.in_ok-push.ensures.items (RiseFrom-push _ _ _ c.args.key c.self.invariant c.requires.positive (rw c.self.view_is c.requires.last))
