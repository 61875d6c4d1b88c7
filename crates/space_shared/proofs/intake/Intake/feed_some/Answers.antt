use Rattle.std.proofs.Common.{sym, subst, Err}
use Rattle.std.proofs.lemmas.Result.{err_from_is_err_and}
use Rattle.space_shared.specs.Listening.{FeedsSome}
use Rattle.space_shared.proofs.Deliveries.{fed_stops, fed_on, fed_next, fed_last}
use Rattle.space_shared.proofs.intake.Intake.feed_some.Goals as goal

-- the decoder stopped
pub returns-in-Err-clause-feeds : goal.returns-in-Err-clause-feeds
returns-in-Err-clause-feeds g c link first read x =
    subst (λ e. FeedsSome link first read c.args.bytes.now (Err e) c.args.self.now c.args.seat.now) (sym c.end_of.ensures)
    (fed_stops link first c.args.seat.now read c.args.self.now x c.args.bytes.now c.feed.new.self c.in-Err.stop c.args.self.now c.in-Err.ensures.stands)

-- no message was ended
pub returns-in_default-clause-feeds : goal.returns-in_default-clause-feeds
returns-in_default-clause-feeds g c link first read x =
    fed_on link first c.args.seat.now read c.args.self.now x c.args.bytes.now c.feed.new.self c.next.new.self c.in-Ok.count c.in-Ok.ensures.ok c.in-Ok.ensures.stands
    c.next.result c.next.ensures.message c.next.ensures.taken c.next.ensures.stands c.in_default.is

-- a message was ended, and is the last
pub returns-in_err-hear-clause-feeds : goal.returns-in_err-hear-clause-feeds
returns-in_err-hear-clause-feeds g c link first read x =
    let e = err_from_is_err_and c.from_residual.result c.from_residual.ensures.1 in
    rw (e.1, e.2) (fed_last link first c.args.seat.now read c.args.self.now x c.args.bytes.now c.feed.new.self c.next.new.self c.in-Ok.count c.in-Ok.ensures.ok c.in-Ok.ensures.stands
    c.next.result c.next.ensures.message c.next.ensures.taken c.next.ensures.stands c.in-Some.framed c.in-Some.is c.hear.new.seat c.hear.ensures.same_seat _ c.args.self.now
    c.in_err-hear.ensures.delivers)

-- a message was ended, and was delivered
pub returns-clause-feeds : goal.returns-clause-feeds
returns-clause-feeds g c link first read x =
    fed_next link first c.args.seat.now read c.args.self.now x c.args.bytes.now c.feed.new.self c.next.new.self c.in-Ok.count c.in-Ok.ensures.ok c.in-Ok.ensures.stands
    c.next.result c.next.ensures.message c.next.ensures.taken c.next.ensures.stands c.in-Some.framed c.in-Some.is c.hear.new.seat c.hear.ensures.same_seat
    c.in_ok-hear.ensures.delivers
