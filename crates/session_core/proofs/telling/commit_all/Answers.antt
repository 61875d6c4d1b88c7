use Rattle.std.proofs.Common.{◌<◌, length, arith, sym}
use Rattle.session_core.specs.Entries.{HasRoomForNext, IsCommitted}
use Rattle.session_core.proofs.Halfway.{halfway_had, halfway_next, halfway_done}
use Rattle.session_core.proofs.telling.commit_all.Goals as goal

pub commit-requires : goal.commit-requires
commit-requires c =
    let within : c.loop-entry.entry-index < length c.loop-entry.entry-items = omega arith in
    halfway_had IsCommitted (λ entry. HasRoomForNext entry.watch entry.next) _ _ _ _ _ c.deref_mut-entry-items.ensures.value within c.loop-entry.invariant c.requires

pub loop-entry-preserved : goal.loop-entry-preserved
loop-entry-preserved c =
    let within : c.loop-entry.entry-index < length c.loop-entry.entry-items = omega arith in
    halfway_next IsCommitted _ _ _ _ _ within c.commit.ensures c.loop-entry.invariant

pub returns : goal.returns
returns c =
    halfway_done IsCommitted _ _ _ _ _ c.deref_mut-entry-items.ensures.value (sym c.deref_mut-entry-items.ensures.len)
    c.loop-entry.auto.entry-items c.loop-entry-test.false c.loop-entry.invariant
