use Rattle.std.proofs.Common.{refl, sym, ap, ◌∙◌}
use Rattle.link_table.specs.Links.{taken, oldest}
use Rattle.link_table.proofs.LinkLemmas.{changed-gone, pending_of-gone}
use Rattle.link_table.proofs.TableLemmas.{Removes-entry, Removes-link, Replaces-by, Replaces-changed, Replaces-indexed, settled-taken}
use Rattle.link_table.proofs.links.Links.take.Goals as goal

pub returns-in_err-entry-clause-message : goal.returns-in_err-entry-clause-message
returns-in_err-entry-clause-message c =
    rw (← c.self.view_is) (c.from_residual.ensures ∙ sym (ap oldest (pending_of-gone c.self.inside.slots.slots c.self.inside.opened c.args.number c.in_err-entry.ensures.0)))

pub returns-in_err-entry-clause-rest : goal.returns-in_err-entry-clause-rest
returns-in_err-entry-clause-rest c =
    rw (← c.self.view_is, c.in_err-entry.ensures.1) (sym (changed-gone taken c.self.inside.slots.slots c.self.inside.opened c.args.number c.in_err-entry.ensures.0 refl))

pub take-message-requires : goal.take-message-requires
take-message-requires c = Removes-entry _ _ _ _ _ c.self.invariant.0 c.in_ok-entry.ensures

pub invariant_of-self-2 : goal.invariant_of-self-2
invariant_of-self-2 c =
    Replaces-indexed _ _ _ _ _ _ _ (Replaces-by _ _ _ _ _ _ _ c.self.invariant.0 c.in_ok-entry.ensures c.put_back.ensures.slots c.take-message.ensures.number c.take-message.ensures.sound) _ _ c.self.invariant.1 c.put_back.ensures.index

pub returns-clause-message : goal.returns-clause-message
returns-clause-message c =
    rw (← c.self.view_is, Removes-link c.self.inside.slots c.take_out.new.slots c.self.inside.opened c.args.number c.in_ok-entry.entry c.self.invariant.0 c.in_ok-entry.ensures) c.take-message.ensures.message

pub returns-clause-rest : goal.returns-clause-rest
returns-clause-rest c =
    let replaces = Replaces-by _ _ _ _ _ _ _ c.self.invariant.0 c.in_ok-entry.ensures c.put_back.ensures.slots c.take-message.ensures.number c.take-message.ensures.sound in
    rw (← c.self.view_is) (Replaces-changed _ _ _ _ _ _ _ replaces taken settled-taken c.take-message.ensures.link)
