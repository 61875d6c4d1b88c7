use Rattle.std.proofs.Common.{sym, ap, ◌∙◌, inl, inr, arith}
use Rattle.std.proofs.lemmas.Bool.{ltb-true, ltb-false, eq-eqb, true≢false}
use Rattle.link_table.specs.Links.{state_or_never}
use Rattle.link_table.proofs.SlotLemmas.{slot_of-no_entry}
use Rattle.link_table.proofs.LinkLemmas.{link_at-never, link_at-gone}
use Rattle.link_table.proofs.TableLemmas.{link_at-entry}
use Rattle.link_table.proofs.links.Links.state.Goals as goal
use Rattle.link_table.proofs.links.Links.state.Goals.{then-number-eq0, else-number-eq0}

pub returns-in-Some : goal.returns-in-Some
returns-in-Some c =
    rw (← c.self.view_is) (sym (ap state_or_never (link_at-entry c.self.inside.slots c.self.inside.opened c.args.number c.in-Some.entry.now c.self.invariant.0 (sym c.in-Some.ensures))))

pub returns-in-None : goal.returns-in-None
returns-in-None c =
    let never = link_at-never c.self.inside.slots.slots c.self.inside.opened c.args.number in
    rw (← c.self.view_is) (elim c.if-number-eq0.branch [
      | then-number-eq0 w ↦ sym (ap state_or_never (never (inl w.if-number-eq0.true)))
      | else-number-eq0 w ↦ sym (ap state_or_never (never (inr (ltb-true _ _ (sym w.value-is ∙ c.if-number-self.true)))))
    ])

pub returns-in-None-2 : goal.returns-in-None-2
returns-in-None-2 c =
    let none = slot_of-no_entry c.self.inside.slots.slots c.args.number (sym c.in-None-2.ensures) in
    let gone = link_at-gone c.self.inside.slots.slots c.self.inside.opened c.args.number none in
    rw (← c.self.view_is) (elim c.if-number-eq0.branch [
      | then-number-eq0 w ↦ absurd (true≢false (sym (w.value-is ∙ eq-eqb c.args.number 0 w.if-number-eq0.true) ∙ c.if-number-self.false))
      | else-number-eq0 w ↦
          let given = ltb-false c.self.inside.opened c.args.number (sym w.value-is ∙ c.if-number-self.false) in
          sym (ap state_or_never (gone (omega (arith, w.if-number-eq0.false)) given))
    ])
