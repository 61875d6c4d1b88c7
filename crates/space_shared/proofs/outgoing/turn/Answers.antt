use Rattle.std.proofs.Common.{subst}
use Rattle.std.specs.Io.KnownBytes.{Appends}
use Rattle.sib_io.specs.Causes.{AppendsPart}
use Rattle.space_shared.specs.Output.{Outlet, outlet}
use Rattle.session_core.specs.declared.call.Call.TheVariants.{Take}
use Rattle.session_core.specs.declared.call.Reply.TheVariants as reply
use Rattle.space_shared.specs.Exchanges.{exchange}
use Rattle.space_shared.proofs.LawsOfLinks.{opened_after}
use Rattle.space_shared.proofs.PumpsGoOn.{pumps_message, pumps_still, pumped_message, pumped_still, pumped_over, pumped_worn, loses_at, hands_on_lost, hands_on_over}
use Rattle.space_shared.proofs.outgoing.turn.Goals as goal

-- a message was written whole
pub returns-in-Ok-clause-pumped : goal.returns-in-Ok-clause-pumped
returns-in-Ok-clause-pumped g c first old said p =
    let now : Outlet = outlet (g.K.Sink.given c.args.sink.now) (g.K.Sink.faults c.args.sink.now) in
    let next : Outlet = outlet (g.K.Sink.given c.write_all.new.self) (g.K.Sink.faults c.write_all.new.self) in (
      exchange (Take c.args.link) (reply.Message c.in-Message.message),
      pumps_message c.args.link first old said c.args.seat.now now p c.take.new.seat next c.in-Message.message c.take.ensures.same_seat c.in-Message.ensures.asked.0 c.take.ensures.own
          (subst (Appends now.given next.given) c.as_slice.ensures c.in-Ok.ensures.bytes) c.in-Ok.ensures.cause.kept,
    )

-- the link that is lost was opened
pub lose-requires-clause-opened : goal.lose-requires-clause-opened
lose-requires-clause-opened g c lifetimes lives = opened_after c.args.link c.args.seat.now c.take.new.seat _ _ c.requires.opened c.take.ensures.same_seat c.in-Message.ensures.asked.0

-- a message could not be written whole
pub returns-in-Message-clause-pumped : goal.returns-in-Message-clause-pumped
returns-in-Message-clause-pumped g c first old said p =
    let now : Outlet = outlet (g.K.Sink.given c.args.sink.now) (g.K.Sink.faults c.args.sink.now) in
    let next : Outlet = outlet (g.K.Sink.given c.write_all.new.self) (g.K.Sink.faults c.write_all.new.self) in
    pumped_message c.args.link first old said c.args.seat.now now p c.take.new.seat c.lose.new.seat next c.in-Message.message c.lose.result c.take.ensures.same_seat
    c.in-Message.ensures.asked.0 c.take.ensures.own (subst (AppendsPart now.given next.given) c.as_slice.ensures c.in-Err.ensures.bytes) c.in-Err.ensures.cause.failed
    c.lose.ensures.same_seat c.lose.ensures.lost c.lose.ensures.own

pub returns-in-Message-clause-cause : goal.returns-in-Message-clause-cause
returns-in-Message-clause-cause g c = loses_at c.args.link c.take.new.seat c.lose.new.seat c.lose.result c.lose.ensures.lost

-- no message waits, and all was handed on
pub returns-in-Ok-flush-clause-pumped : goal.returns-in-Ok-flush-clause-pumped
returns-in-Ok-flush-clause-pumped g c first old said p =
    let now : Outlet = outlet (g.K.Sink.given c.args.sink.now) (g.K.Sink.faults c.args.sink.now) in
    let next : Outlet = outlet (g.K.Sink.given c.flush.new.self) (g.K.Sink.faults c.flush.new.self) in (
      exchange (Take c.args.link) reply.Empty,
      pumps_still c.args.link first old said c.args.seat.now now p c.take.new.seat next c.take.ensures.same_seat c.in-Empty.ensures.asked.0 c.take.ensures.own
          c.flush.ensures.bytes c.in-Ok-flush.ensures.cause.kept,
    )

pub lose-requires-in-Err-flush-clause-opened : goal.lose-requires-in-Err-flush-clause-opened
lose-requires-in-Err-flush-clause-opened g c lifetimes lives =
    opened_after c.args.link c.args.seat.now c.take.new.seat _ _ c.requires.opened c.take.ensures.same_seat c.in-Empty.ensures.asked.0

-- no message waits, and a flush failed
pub returns-in-Empty-clause-pumped : goal.returns-in-Empty-clause-pumped
returns-in-Empty-clause-pumped g c first old said p =
    let now : Outlet = outlet (g.K.Sink.given c.args.sink.now) (g.K.Sink.faults c.args.sink.now) in
    let next : Outlet = outlet (g.K.Sink.given c.flush.new.self) (g.K.Sink.faults c.flush.new.self) in
    pumped_still c.args.link first old said c.args.seat.now now p c.take.new.seat c.lose-in-Err-flush.new.seat next c.lose-in-Err-flush.result c.take.ensures.same_seat
    c.in-Empty.ensures.asked.0 c.take.ensures.own c.flush.ensures.bytes c.in-Err-flush.ensures.cause.failed
    c.lose-in-Err-flush.ensures.same_seat c.lose-in-Err-flush.ensures.lost c.lose-in-Err-flush.ensures.own

pub returns-in-Empty-clause-cause : goal.returns-in-Empty-clause-cause
returns-in-Empty-clause-cause g c = loses_at c.args.link c.take.new.seat c.lose-in-Err-flush.new.seat c.lose-in-Err-flush.result c.lose-in-Err-flush.ensures.lost

-- the link is over
pub returns-in-Over-clause-pumped : goal.returns-in-Over-clause-pumped
returns-in-Over-clause-pumped g c first old said p =
    let now : Outlet = outlet (g.K.Sink.given c.args.sink.now) (g.K.Sink.faults c.args.sink.now) in
    let next : Outlet = outlet (g.K.Sink.given c.flush-in-Over.new.self) (g.K.Sink.faults c.flush-in-Over.new.self) in
    pumped_over c.args.link first old said c.args.seat.now now p c.take.new.seat next c.take.ensures.same_seat c.in-Over.ensures.asked.0 c.take.ensures.own
    c.flush-in-Over.ensures.bytes c.flush-in-Over.ensures.cause.later

-- the history is full
pub returns-clause-pumped : goal.returns-clause-pumped
returns-clause-pumped g c first old said p =
    let now : Outlet = outlet (g.K.Sink.given c.args.sink.now) (g.K.Sink.faults c.args.sink.now) in
    pumped_worn c.args.link first old said c.args.seat.now now p c.take.new.seat c.in-Worn.count c.take.ensures.same_seat c.in-Worn.ensures.asked.0 c.take.ensures.own

-- a pump whose link is lost owes nothing to its sink
pub returns-in-Message-clause-handed : goal.returns-in-Message-clause-handed
returns-in-Message-clause-handed g c = hands_on_lost c.args.link c.take.new.seat c.lose.new.seat c.lose.result _ _ _ _ c.lose.ensures.lost

pub returns-in-Empty-clause-handed : goal.returns-in-Empty-clause-handed
returns-in-Empty-clause-handed g c =
    hands_on_lost c.args.link c.take.new.seat c.lose-in-Err-flush.new.seat c.lose-in-Err-flush.result _ _ _ _ c.lose-in-Err-flush.ensures.lost

-- at the end of the link the sink was flushed
pub returns-in-Over-clause-handed : goal.returns-in-Over-clause-handed
returns-in-Over-clause-handed g c = hands_on_over c.flush-in-Over.result _ _ _ _ c.flush-in-Over.ensures.handed c.flush-in-Over.ensures.cause.failed
