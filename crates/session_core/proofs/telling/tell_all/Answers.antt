use Rattle.std.proofs.Common.{◌<◌, ◌^◌, ◌∙◌, length, arith, refl, sym}
use Rattle.session_core.specs.declared.entry.Entry.{Entry}
use Rattle.session_core.proofs.Halfway.{halfway_had, halfway_set}
use Rattle.session_core.proofs.TurnsAreTaken.{told_links_next, told_entries_next, passed_links_next, passed_entries_next}
use Rattle.session_core.proofs.telling.tell_all.Goals as goal
use Rattle.session_core.proofs.telling.tell_all.Goals.{then-is_living, else-is_living}

pub loop-entry-init : goal.loop-entry-init
loop-entry-init c = record { rest = refl; links = refl; entries = refl }

pub tell-requires : goal.tell-requires
tell-requires c =
    let within : c.loop-entry.entry-index < length c.loop-entry.entry-items = omega arith in
    halfway_had (λ (old new : Entry). Unit {0}) (λ entry. entry.sequence < 2 ^ 63) _ _ _ _ c.entry-item.result c.deref_mut-entry-items.ensures.value within c.loop-entry.invariant.rest c.requires

pub loop-entry-preserved : goal.loop-entry-preserved
loop-entry-preserved c =
    let within : c.loop-entry.entry-index < length c.loop-entry.entry-items = omega arith in
    elim c.if-is_living.branch [
      | then-is_living w ↦ record {
        rest = halfway_set (λ (old new : Entry). Unit {0}) _ _ _ _ c.entry-item.result _ w.entry-items-is within tt c.loop-entry.invariant.rest;
        links = told_links_next _ _ _ c.entry-item.result _ w.entry-items-is within _ _ c.args.links.now c.deref_mut-entry-items.result.now c.loop-entry.invariant.links c.loop-entry.invariant.entries
            (sym c.is_living.ensures ∙ w.if-is_living.true) (w.tell.ensures.0, w.links-is ∙ w.tell.ensures.1);
        entries = told_entries_next _ _ _ c.entry-item.result _ w.entry-items-is within _ _ c.args.links.now c.deref_mut-entry-items.result.now c.loop-entry.invariant.links c.loop-entry.invariant.entries
            (sym c.is_living.ensures ∙ w.if-is_living.true) (w.tell.ensures.0, w.links-is ∙ w.tell.ensures.1);
      }
      | else-is_living w ↦ record {
        rest = halfway_set (λ (old new : Entry). Unit {0}) _ _ _ _ c.entry-item.result _ w.entry-items-is within tt c.loop-entry.invariant.rest;
        links = passed_links_next _ _ _ c.entry-item.result _ w.entry-items-is within _ _ c.args.links.now c.deref_mut-entry-items.result.now c.loop-entry.invariant.links c.loop-entry.invariant.entries
            (sym c.is_living.ensures ∙ w.if-is_living.false) w.links-is;
        entries = passed_entries_next _ _ _ c.entry-item.result _ w.entry-items-is within _ _ c.args.links.now c.deref_mut-entry-items.result.now c.loop-entry.invariant.links c.loop-entry.invariant.entries
            (sym c.is_living.ensures ∙ w.if-is_living.false) w.links-is refl;
      }
    ]
