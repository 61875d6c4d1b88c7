use Rattle.std.proofs.Common.{◌≡◌, ◌<◌, ◌≤◌, ◌+◌, ◌^◌, ◌∙◌, length, sum_by, true, arith, sym, ap, subst, take}
use Rattle.session_core.specs.Entries.{is_living as lives, living, IsSameEntry, IsReady}
use Rattle.session_core.specs.Subscriptions.{Subscription}
use Rattle.session_core.specs.Numbers.{graph_of, made}
use Rattle.session_core.specs.Reads.{wanted_cost}
use Rattle.session_core.specs.Watches.{Stands}
use Rattle.session_core.proofs.Halfway.{halfway_had, halfway_set, halfway_done, halfway_stopped, halfway_weaker}
use Rattle.session_core.proofs.UpdatesArePrepared.{ready_living, ready_passed, costs_within, costs_living, costs_passed}
use Rattle.session_core.proofs.RoomIsMade.{entry_self}
use Rattle.session_core.proofs.telling.prepare_all.Goals as goal
use Rattle.session_core.proofs.telling.prepare_all.Goals.{then-is_living+in_ok-prepare, else-is_living}

pub prepare-requires-clause-few : goal.prepare-requires-clause-few
prepare-requires-clause-few g c =
    let within : c.loop-entry.entry-index < length c.loop-entry.entry-items = omega arith in
    halfway_had (IsReady c.args.links.now c.args.facts.now (made c.args.facts.now c.args.update.now.draft c.args.update.now.change) c.args.name.now)
    (λ entry. entry.sequence < 2 ^ 63) _ _ _ _ c.entry-item.result c.deref_mut-entry-items.ensures.value within c.loop-entry.invariant.ready (λ one there. (c.requires.sound one there).0)

pub prepare-requires-clause-stands : goal.prepare-requires-clause-stands
prepare-requires-clause-stands g c =
    let within : c.loop-entry.entry-index < length c.loop-entry.entry-items = omega arith in
    halfway_had (IsReady c.args.links.now c.args.facts.now (made c.args.facts.now c.args.update.now.draft c.args.update.now.change) c.args.name.now)
    (λ entry. lives c.args.links.now entry ≡ true → Stands c.args.facts.now entry.watch) _ _ _ _ c.entry-item.result c.deref_mut-entry-items.ensures.value within c.loop-entry.invariant.ready
    (λ one there. (c.requires.sound one there).1) (sym c.is_living.ensures ∙ c.if-is_living.true)

pub returns-in_err-prepare-clause-same : goal.returns-in_err-prepare-clause-same
returns-in_err-prepare-clause-same g c =
    halfway_stopped IsSameEntry entry_self _ _ _ _ _ _ _ c.deref_mut-entry-items.ensures.value (sym c.deref_mut-entry-items.ensures.len)
    c.loop-entry.auto.entry-items c.loop-entry-test.true c.prepare.ensures.same
    (halfway_weaker (IsReady c.args.links.now c.args.facts.now (made c.args.facts.now c.args.update.now.draft c.args.update.now.change) c.args.name.now)
    IsSameEntry (λ one other h. h.same) _ _ _ c.loop-entry.invariant.ready)

pub returns-in_err-prepare-clause-reads : goal.returns-in_err-prepare-clause-reads
returns-in_err-prepare-clause-reads g c =
    let cost = λ (subscription : Subscription). wanted_cost (graph_of (made c.args.facts.now c.args.update.now.draft c.args.update.now.change)) subscription.wanted in
    let one : c.prepare.new.steps ≤ c.args.steps.now + sum_by cost (living c.args.links.now (take (c.loop-entry.entry-index + 1) c.deref_mut-entry-items.result.now)) =
    costs_living c.args.links.now cost (IsReady c.args.links.now c.args.facts.now (made c.args.facts.now c.args.update.now.draft c.args.update.now.change) c.args.name.now)
    _ _ _ c.entry-item.result c.loop-entry-test.true c.loop-entry.invariant.ready _ _ _ (sym c.is_living.ensures ∙ c.if-is_living.true) c.loop-entry.invariant.reads c.prepare.ensures.reads in
    let part = costs_within c.args.links.now cost (c.loop-entry.entry-index + 1) c.deref_mut-entry-items.result.now in
    let same = ap (λ entries. sum_by cost (living c.args.links.now entries)) c.deref_mut-entry-items.ensures.value in
    omega (arith, one, part, same)

pub loop-entry-preserved : goal.loop-entry-preserved
loop-entry-preserved g c =
    let Ready = IsReady c.args.links.now c.args.facts.now (made c.args.facts.now c.args.update.now.draft c.args.update.now.change) c.args.name.now in
    let cost = λ (subscription : Subscription). wanted_cost (graph_of (made c.args.facts.now c.args.update.now.draft c.args.update.now.change)) subscription.wanted in
    let within : c.loop-entry.entry-index < length c.loop-entry.entry-items = omega arith in
    elim c.if-is_living.branch [
      | then-is_living+in_ok-prepare w ↦ record {
        ready = halfway_set Ready _ _ _ _ _ _ w.entry-items-is within
            (ready_living c.args.links.now c.args.facts.now (made c.args.facts.now c.args.update.now.draft c.args.update.now.change) c.args.name.now _ _
            w.prepare.ensures.same w.in_ok-prepare.ensures.due w.in_ok-prepare.ensures.next) c.loop-entry.invariant.ready;
        reads = subst (λ steps. steps ≤ c.args.steps.now + sum_by cost (living c.args.links.now (take (c.loop-entry.entry-index + 1) c.deref_mut-entry-items.result.now))) (sym w.steps-is)
            (costs_living c.args.links.now cost Ready _ _ _ c.entry-item.result c.loop-entry-test.true c.loop-entry.invariant.ready _ _ _
            (sym c.is_living.ensures ∙ w.if-is_living.true) c.loop-entry.invariant.reads w.prepare.ensures.reads);
      }
      | else-is_living w ↦ record {
        ready = halfway_set Ready _ _ _ _ _ _ w.entry-items-is within
            (ready_passed c.args.links.now c.args.facts.now (made c.args.facts.now c.args.update.now.draft c.args.update.now.change) c.args.name.now _ _
            (sym c.is_living.ensures ∙ w.if-is_living.false) w.pass.ensures) c.loop-entry.invariant.ready;
        reads = subst (λ steps. steps ≤ c.args.steps.now + sum_by cost (living c.args.links.now (take (c.loop-entry.entry-index + 1) c.deref_mut-entry-items.result.now))) (sym w.steps-is)
            (costs_passed c.args.links.now cost Ready _ _ _ c.entry-item.result c.loop-entry-test.true c.loop-entry.invariant.ready _ _
            (sym c.is_living.ensures ∙ w.if-is_living.false) c.loop-entry.invariant.reads);
      }
    ]

pub returns-clause-same : goal.returns-clause-same
returns-clause-same g c =
    halfway_done IsSameEntry _ _ _ _ _ c.deref_mut-entry-items.ensures.value (sym c.deref_mut-entry-items.ensures.len)
    c.loop-entry.auto.entry-items c.loop-entry-test.false
    (halfway_weaker (IsReady c.args.links.now c.args.facts.now (made c.args.facts.now c.args.update.now.draft c.args.update.now.change) c.args.name.now)
    IsSameEntry (λ one other h. h.same) _ _ _ c.loop-entry.invariant.ready)

pub returns-clause-ready : goal.returns-clause-ready
returns-clause-ready g c =
    halfway_done (IsReady c.args.links.now c.args.facts.now (made c.args.facts.now c.args.update.now.draft c.args.update.now.change) c.args.name.now)
    _ _ _ _ _ c.deref_mut-entry-items.ensures.value (sym c.deref_mut-entry-items.ensures.len)
    c.loop-entry.auto.entry-items c.loop-entry-test.false c.loop-entry.invariant.ready
