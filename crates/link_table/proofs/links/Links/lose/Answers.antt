use Rattle.std.proofs.Common.{refl, sym}
use Rattle.link_table.specs.Links.{lost}
use Rattle.link_table.proofs.LinkLemmas.{changed-gone}
use Rattle.link_table.proofs.TableLemmas.{Removes-entry, Replaces-by, Replaces-changed, Replaces-indexed, settled-lost}
use Rattle.link_table.proofs.links.Links.lose.Goals as goal

pub lose-requires : goal.lose-requires
lose-requires c = Removes-entry _ _ _ _ _ c.self.invariant.0 c.in-Some.ensures

pub invariant_of-self : goal.invariant_of-self
invariant_of-self c =
    Replaces-indexed _ _ _ _ _ _ _ (Replaces-by _ _ _ _ _ _ _ c.self.invariant.0 c.in-Some.ensures c.put_back.ensures.slots c.lose.ensures.number c.lose.ensures.sound) _ _ c.self.invariant.1 c.put_back.ensures.index

pub returns-in-Some : goal.returns-in-Some
returns-in-Some c =
    let replaces = Replaces-by _ _ _ _ _ _ _ c.self.invariant.0 c.in-Some.ensures c.put_back.ensures.slots c.lose.ensures.number c.lose.ensures.sound in
    rw (← c.self.view_is) (Replaces-changed _ _ _ _ _ _ _ replaces lost settled-lost c.lose.ensures.link)

pub returns-in_default : goal.returns-in_default
returns-in_default c =
    rw (← c.self.view_is, c.in_default.ensures.1) (sym (changed-gone lost c.self.inside.slots.slots c.self.inside.opened c.args.number c.in_default.ensures.0 refl))
