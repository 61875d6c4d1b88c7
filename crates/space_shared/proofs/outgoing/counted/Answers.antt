use Rattle.std.proofs.Common.{◌∙◌, [], ◌∷◌, ◌++◌}
use Rattle.space_shared.specs.Output.{Outlet, outlet}
use Rattle.space_shared.proofs.PumpsGoOn.{pumps_none, pumps_opened, pumps_seat, hands_on_since}
use Rattle.space_shared.proofs.Exchanges.{same_seats}
use Rattle.space_shared.proofs.outgoing.counted.Goals as goal

-- no call was made yet
pub loop-init : goal.loop-init
loop-init g c = ([], pumps_none c.args.link c.args.seat.now (outlet (g.K.Sink.given c.args.sink.now) (g.K.Sink.faults c.args.sink.now)))

pub turn-requires-clause-of_turn : goal.turn-requires-clause-of_turn
turn-requires-clause-of_turn g c lifetimes lives =
    let (said, p) = c.loop.invariant in
    (pumps_seat c.args.link c.args.seat.now _ said c.loop.seat _ p).0 ∙ c.requires.of_turn

pub turn-requires-clause-opened : goal.turn-requires-clause-opened
turn-requires-clause-opened g c lifetimes lives =
    let (said, p) = c.loop.invariant in
    pumps_opened c.args.link c.args.seat.now _ said c.loop.seat _ p c.requires.opened

-- the pump ended
pub returns-in-Some-turn-clause-same_seat : goal.returns-in-Some-turn-clause-same_seat
returns-in-Some-turn-clause-same_seat g c =
    let (said, p) = c.loop.invariant in
    same_seats c.args.seat.now c.loop.seat c.turn.new.seat (pumps_seat c.args.link c.args.seat.now _ said c.loop.seat _ p) c.turn.ensures.same_seat

pub returns-in-Some-turn-clause-pumped : goal.returns-in-Some-turn-clause-pumped
returns-in-Some-turn-clause-pumped g c =
    let (said, p) = c.loop.invariant in
    let old : Outlet = outlet (g.K.Sink.given c.args.sink.now) (g.K.Sink.faults c.args.sink.now) in
    c.in-Some-turn.ensures.pumped c.args.seat.now old said p

-- one message more was asked for
pub loop-preserved : goal.loop-preserved
loop-preserved g c =
    let (said, p) = c.loop.invariant in
    let old : Outlet = outlet (g.K.Sink.given c.args.sink.now) (g.K.Sink.faults c.args.sink.now) in
    let (one, more) = c.in_default.ensures.pumped c.args.seat.now old said p in
    (said ++ one ∷ [], more)

-- no fault had been counted when the pump came to its end
pub returns-in-Some-turn-clause-handed : goal.returns-in-Some-turn-clause-handed
returns-in-Some-turn-clause-handed g c =
    let (said, p) = c.loop.invariant in
    hands_on_since c.in-Some-turn.end _ _ _ _ _ p.faults c.in-Some-turn.ensures.handed
