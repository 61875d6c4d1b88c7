use Rattle.std.proofs.Common.{◌<◌, length, arith, refl, sym}
use Rattle.session_core.specs.Entries.{IsPassed}
use Rattle.session_core.proofs.Halfway.{halfway_next, halfway_done}
use Rattle.session_core.proofs.TurnsAreTaken.{ended_links_next}
use Rattle.session_core.proofs.telling.tell_ends.Goals as goal

pub loop-entry-preserved : goal.loop-entry-preserved
loop-entry-preserved c =
    let within : c.loop-entry.entry-index < length c.loop-entry.entry-items = omega arith in
    record {
      passed = halfway_next IsPassed _ _ _ _ _ within c.tell_end.ensures.entry c.loop-entry.invariant.passed;
      links = ended_links_next _ _ _ c.entry-item.result c.tell_end.new.self refl within _ _ c.args.links.now c.deref_mut-entry-items.result.now c.loop-entry.invariant.links c.tell_end.ensures.links;
    }

pub returns-clause-entries : goal.returns-clause-entries
returns-clause-entries c =
    halfway_done IsPassed _ _ _ _ _ c.deref_mut-entry-items.ensures.value (sym c.deref_mut-entry-items.ensures.len)
    c.loop-entry.auto.entry-items c.loop-entry-test.false c.loop-entry.invariant.passed
