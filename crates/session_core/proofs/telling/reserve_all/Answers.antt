use Rattle.std.proofs.Common.{◌<◌, length, arith, sym}
use Rattle.session_core.specs.Entries.{IsStepNext, IsRoomier}
use Rattle.session_core.proofs.Halfway.{halfway_had, halfway_next, halfway_done, halfway_stopped}
use Rattle.session_core.proofs.RoomIsMade.{roomier_self, room_next, room_all}
use Rattle.session_core.proofs.telling.reserve_all.Goals as goal

pub reserve-requires : goal.reserve-requires
reserve-requires c =
    let within : c.loop-entry.entry-index < length c.loop-entry.entry-items = omega arith in
    halfway_had IsRoomier (λ entry. IsStepNext entry.watch entry.next) _ _ _ _ _ c.deref_mut-entry-items.ensures.value within c.loop-entry.invariant.same c.requires

pub returns-in_err-reserve-clause-same : goal.returns-in_err-reserve-clause-same
returns-in_err-reserve-clause-same c =
    halfway_stopped IsRoomier roomier_self _ _ _ _ _ _ _ c.deref_mut-entry-items.ensures.value (sym c.deref_mut-entry-items.ensures.len)
    c.loop-entry.auto.entry-items c.loop-entry-test.true c.reserve.ensures.same c.loop-entry.invariant.same

pub loop-entry-preserved : goal.loop-entry-preserved
loop-entry-preserved c =
    let within : c.loop-entry.entry-index < length c.loop-entry.entry-items = omega arith in
    record {
      same = halfway_next IsRoomier _ _ _ _ _ within c.reserve.ensures.same c.loop-entry.invariant.same;
      room = room_next _ _ _ within c.loop-entry.invariant.room c.in_ok-reserve.ensures.room;
    }

pub returns-clause-same : goal.returns-clause-same
returns-clause-same c =
    halfway_done IsRoomier _ _ _ _ _ c.deref_mut-entry-items.ensures.value (sym c.deref_mut-entry-items.ensures.len)
    c.loop-entry.auto.entry-items c.loop-entry-test.false c.loop-entry.invariant.same

pub returns-clause-room : goal.returns-clause-room
returns-clause-room c =
    room_all _ _ _ _ _ c.deref_mut-entry-items.ensures.value (sym c.deref_mut-entry-items.ensures.len)
    c.loop-entry.auto.entry-items c.loop-entry-test.false c.loop-entry.invariant.room
