use Rattle.std.proofs.Common.{refl, sym, ap, ◌∙◌, length}
use Rattle.link_table.specs.Links.{pending_or_none}
use Rattle.link_table.proofs.SlotLemmas.{slot_of-no_entry}
use Rattle.link_table.proofs.LinkLemmas.{pending_of-gone}
use Rattle.link_table.proofs.TableLemmas.{link_at-entry}
use Rattle.link_table.proofs.links.Links.waiting.Goals as goal

pub returns-in-Some : goal.returns-in-Some
returns-in-Some c =
    rw (← c.self.view_is) (c.len.ensures.value ∙ sym (ap (λ link. length (pending_or_none link)) (link_at-entry c.self.inside.slots c.self.inside.opened c.args.number c.in-Some.entry.now c.self.invariant.0 (sym c.in-Some.ensures))))

pub returns-in-None : goal.returns-in-None
returns-in-None c =
    let none = slot_of-no_entry c.self.inside.slots.slots c.args.number (sym c.in-None.ensures) in
    rw (← c.self.view_is, pending_of-gone c.self.inside.slots.slots c.self.inside.opened c.args.number none) refl
