use Rattle.std.proofs.Common.{refl, sym}
use Rattle.link_table.proofs.SlotLemmas.{slot_of-found}
use Rattle.link_table.proofs.SwitchedIndex.{slot_of-key, slot_of-no_key}
use Rattle.link_table.proofs.TableLemmas.{Removes-found}
use Rattle.link_table.proofs.links.take_out.Goals as goal

pub remove-requires : goal.remove-requires
remove-requires c =
    let slot = slot_of-key c.args.slots.now.slots c.args.index.now c.args.number c.in-Some.key c.requires (sym c.in-Some.ensures) in
    let is = slot_of-found c.args.slots.now c.args.number c.in-Some.key slot.0 slot.1 in rw is.0 refl

pub returns-in-Some : goal.returns-in-Some
returns-in-Some c =
    let slot = slot_of-key c.args.slots.now.slots c.args.index.now c.args.number c.in-Some.key c.requires (sym c.in-Some.ensures) in
    Removes-found c.args.slots.now c.remove.new.self c.args.number c.in-Some.key slot.0 c.remove.result slot.1 c.remove.ensures.key_is_next c.remove.ensures.value c.remove.ensures.updates c.remove.ensures.len c.remove.ensures.room

pub returns-in-None : goal.returns-in-None
returns-in-None c = (slot_of-no_key c.args.slots.now.slots c.args.index.now c.args.number c.requires (sym c.in-None.ensures), refl)
