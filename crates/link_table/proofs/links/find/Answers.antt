use Rattle.std.proofs.Common.{ℕ, sym, ap, ◌∙◌, option_map}
use Rattle.link_table.specs.declared.entry.Entry.{Entry}
use Rattle.link_table.proofs.SwitchedIndex.{get-key, slot_of-no_key}
use Rattle.link_table.proofs.links.find.Goals as goal

pub returns-in-Some : goal.returns-in-Some
returns-in-Some c = c.get.ensures ∙ get-key c.args.slots.now c.args.index.now c.args.number c.in-Some.key c.requires (sym c.in-Some.ensures)

pub returns-in-None : goal.returns-in-None
returns-in-None c = sym (ap (option_map (λ (slot : ℕ × Entry). slot.1)) (slot_of-no_key c.args.slots.now.slots c.args.index.now c.args.number c.requires (sym c.in-None.ensures)))
