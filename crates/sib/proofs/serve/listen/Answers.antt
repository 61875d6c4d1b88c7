use denote.Param.Send.{sendable}
use Rattle.std.proofs.Crossing
use Rattle.sib_app.below.space_turn.proofs.seat.TurnSeat.TheSendSync as seat
use Rattle.sib_app.below.serve_links.proofs.job.Half.TheSendSync as half
use Rattle.sib_app.proofs.SpacesCross.{core_send, space_send, space_sync}
use Rattle.sib.proofs.serve.listen.Goals as goal

-- the jobs may go to other threads
pub new-requires-send-J : goal.new-requires-send-J
new-requires-send-J g c κs within =
    let a = core_send in let b = space_send in let d = space_sync in
    search (seat.the_send, half.the_send, half.the_field_send, Crossing.crosses, sendable) depth 60 fits 20000
