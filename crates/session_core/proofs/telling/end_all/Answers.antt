use Rattle.std.proofs.Common.{◌≡◌, ◌<◌, ◌∙◌, length, arith, sym}
use Rattle.session_core.specs.Entries.{ended_if}
use Rattle.session_core.specs.declared.entry.Entry.{Entry}
use Rattle.session_core.proofs.Halfway.{halfway_set, halfway_done, each_map}
use Rattle.session_core.proofs.EndsArePrepared.{ended_yes, ended_no}
use Rattle.session_core.proofs.telling.end_all.Goals as goal
use Rattle.session_core.proofs.telling.end_all.Goals.{then-has, else-has}

pub loop-entry-preserved : goal.loop-entry-preserved
loop-entry-preserved c =
    let within : c.loop-entry.entry-index < length c.loop-entry.entry-items = omega arith in
    elim c.if-has.branch [
      | then-has w ↦
          halfway_set (λ (old new : Entry). new ≡ ended_if c.args.whose old) _ _ _ _ _ _ w.entry-items-is within
          (ended_yes _ _ (sym c.has.ensures ∙ w.if-has.true)) c.loop-entry.invariant
      | else-has w ↦
          halfway_set (λ (old new : Entry). new ≡ ended_if c.args.whose old) _ _ _ _ _ _ w.entry-items-is within
          (ended_no _ _ (sym c.has.ensures ∙ w.if-has.false)) c.loop-entry.invariant
    ]

pub returns : goal.returns
returns c =
    each_map (ended_if c.args.whose) _ _
    (halfway_done (λ (old new : Entry). new ≡ ended_if c.args.whose old) _ _ _ _ _ c.deref_mut-entry-items.ensures.value (sym c.deref_mut-entry-items.ensures.len)
    c.loop-entry.auto.entry-items c.loop-entry-test.false c.loop-entry.invariant)
