use Rattle.std.proofs.Common.{◌<◌, ◌∙◌, length, arith, sym}
use Rattle.session_core.specs.Entries.{IsEnding, IsSameEntry}
use Rattle.session_core.proofs.Halfway.{halfway_set, halfway_done, halfway_stopped, halfway_weaker}
use Rattle.session_core.proofs.EndsArePrepared.{ending_yes, ending_no, not_first, not_second}
use Rattle.session_core.proofs.RoomIsMade.{entry_self}
use Rattle.session_core.proofs.telling.prepare_ends.Goals as goal
use Rattle.session_core.proofs.telling.prepare_ends.Goals.{then-is_living+then-has+in_ok-farewell, else-is_living, else-is_living-via-then-is_living+else-has, else-is_living-via-else-is_living}

pub returns-in_err-farewell-clause-same : goal.returns-in_err-farewell-clause-same
returns-in_err-farewell-clause-same c =
    halfway_stopped IsSameEntry entry_self _ _ _ _ _ _ _ c.deref_mut-entry-items.ensures.value (sym c.deref_mut-entry-items.ensures.len)
    c.loop-entry.auto.entry-items c.loop-entry-test.true (entry_self _)
    (halfway_weaker (IsEnding c.args.links.now c.args.name.now c.args.whose) IsSameEntry (λ one other h. h.same) _ _ _ c.loop-entry.invariant)

pub loop-entry-preserved : goal.loop-entry-preserved
loop-entry-preserved c =
    let within : c.loop-entry.entry-index < length c.loop-entry.entry-items = omega arith in
    elim c.if-is_living.branch [
      | then-is_living+then-has+in_ok-farewell w ↦
          halfway_set (IsEnding c.args.links.now c.args.name.now c.args.whose) _ _ _ _ _ _ w.entry-items-is within
          (ending_yes _ _ _ _ _ (sym c.is_living.ensures ∙ w.if-is_living.true) (sym w.has.ensures ∙ w.if-has.true) w.in_ok-farewell.ensures) c.loop-entry.invariant
      | else-is_living w ↦
          halfway_set (IsEnding c.args.links.now c.args.name.now c.args.whose) _ _ _ _ _ _ w.entry-items-is within
          (ending_no _ _ _ _ _ (elim w.else-is_living.branch [
            | else-is_living-via-then-is_living+else-has v ↦ not_second _ _ (sym c.is_living.ensures ∙ v.if-is_living.true) (sym v.has.ensures ∙ v.if-has.false)
            | else-is_living-via-else-is_living v ↦ not_first _ _ (sym c.is_living.ensures ∙ v.if-is_living.false)
          ]) w.pass.ensures) c.loop-entry.invariant
    ]

pub returns-clause-same : goal.returns-clause-same
returns-clause-same c =
    halfway_done IsSameEntry _ _ _ _ _ c.deref_mut-entry-items.ensures.value (sym c.deref_mut-entry-items.ensures.len)
    c.loop-entry.auto.entry-items c.loop-entry-test.false (halfway_weaker (IsEnding c.args.links.now c.args.name.now c.args.whose) IsSameEntry (λ one other h. h.same) _ _ _ c.loop-entry.invariant)

pub returns-clause-ready : goal.returns-clause-ready
returns-clause-ready c =
    halfway_done (IsEnding c.args.links.now c.args.name.now c.args.whose) _ _ _ _ _ c.deref_mut-entry-items.ensures.value (sym c.deref_mut-entry-items.ensures.len)
    c.loop-entry.auto.entry-items c.loop-entry-test.false c.loop-entry.invariant
