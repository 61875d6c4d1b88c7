use Rattle.session_core.proofs.RoomIsMade.{roomier_self}
use Rattle.session_core.proofs.SameWatches.{room_for}
use Rattle.session_core.proofs.entry.Entry.reserve.Goals as goal

pub returns-in-Some-clause-room : goal.returns-in-Some-clause-room
returns-in-Some-clause-room c = room_for _ _ _ _ c.in-Some.is c.requires c.reserve.ensures.same _ c.reserve.ensures.room

pub returns-in-None-clause-same : goal.returns-in-None-clause-same
returns-in-None-clause-same c = roomier_self c.args.self.now
