use Rattle.std.proofs.Common.{sym, subst}
use Rattle.link_table.specs.Index.{RiseFrom}
use Rattle.link_table.proofs.RisingPairs.{RiseFrom-without, without-at, without-absent}
use Rattle.link_table.proofs.index.Index.remove.Goals as goal

-- the pair of the number goes, and no other
pub returns-in-Some : goal.returns-in-Some
returns-in-Some c =
    let rise = subst (RiseFrom 1) c.self.view_is c.self.invariant in
    rw (c.remove.ensures.items, c.self.view_is) (without-at c.args.self.now 1 c.args.number c.in-Some.place rise c.in-Some.ensures.0 c.in-Some.ensures.1)

pub invariant_of-self : goal.invariant_of-self
invariant_of-self c =
    let rise = subst (RiseFrom 1) c.self.view_is c.self.invariant in
    rw (c.remove.ensures.items, c.self.view_is, without-at c.args.self.now 1 c.args.number c.in-Some.place rise c.in-Some.ensures.0 c.in-Some.ensures.1) (RiseFrom-without c.args.self.now 1 c.args.number rise)

pub returns-in_default : goal.returns-in_default
returns-in_default c = sym (without-absent _ _ c.in_default.ensures)
