use Rattle.std.proofs.Common.{rules, arith, Some, None, ap, sym, ◌∙◌, ◌∷◌, subst}
use Rattle.atomic_table.specs.Table.{rest}
use Rattle.space_turn.specs.Histories.{calls_of}
use Rattle.space_turn.proofs.CallsOfANumber.{length-calls_of}
use Rattle.space_turn.proofs.StepsKeepTheRule.{adds_held}
use Rattle.space_turn.proofs.TheMachineIsOut.{taken_out, put_back_in}
use Rattle.space_turn.proofs.turn.Turn.work.Goals as goal

pub exchange-requires : goal.exchange-requires
exchange-requires g c =
    let h = c.requires.holding in (search rules, (Some h.0, h.1 ∙ ap (λ l. (0, Some h.0) ∷ rest l) (sym h.1)))

pub fetch_add-requires : goal.fetch_add-requires
fetch_add-requires g c =
    let h = c.requires.holding in
    let stands = g.M.Machine.stands in
    let me = c.args.place.now.me in
    let back = put_back_in me c.exchange.new.seat.me c.exchange-in-Ok.new.seat.me h.0 None (Some c.step.new.self) h.1 c.exchange.ensures.3 c.exchange-in-Ok.ensures.3 in
    let out = taken_out me.1 c.exchange.result h.0 c.unwrap-machine.result h.1 c.exchange.ensures.2 (search rules) in
    let step = c.in-Ok.ensures.history (calls_of me.0.kept) (subst (λ m. stands m (calls_of me.0.kept)) out h.6) (let few = c.requires.room in omega (arith, length-calls_of me.0.kept)) in (
      search rules,
      search rules,
      adds_held stands g.M.Machine.root c.self.inside.table.shared.key.me.0 _ _ me _ _ c.step.new.self c.args.call back c.requires.asked c.self.invariant.1 h step.0
          (c.in-Ok.ensures.same_root ∙ (sym (ap g.M.Machine.root out) ∙ h.7)) c.requires.room,
    )
