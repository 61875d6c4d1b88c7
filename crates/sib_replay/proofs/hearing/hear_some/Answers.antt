use Rattle.std.proofs.Common.{subst, Ok}
use Rattle.std.proofs.lemmas.Result.{err_from_is_err_and}
use Rattle.sib_replay.specs.Doing.{seen}
use Rattle.sib_replay.specs.Session.{TakesFramed}
use Rattle.sib_replay.proofs.HearingLemmas.{feeds_some, hearing_refused, refused_fault, hearing_on, hearing_arrives, hearing_stops, hearing_fault}
use Rattle.sib_replay.proofs.hearing.hear_some.Goals as goal

-- the decoder stopped
pub returns-in-Err-clause-heard : goal.returns-in-Err-clause-heard
returns-in-Err-clause-heard g c name before heard came events old h p =
    hearing_refused name before c.args.link came heard events c.args.core.now.space c.args.decoder.now c.feed.new.self c.feed.new.self c.args.bytes.now h
    c.in-Err.stop c.feed.new.self c.refuse.new.core.space old _ _ c.in-Err.ensures.stands p c.in_ok-refuse-in-Err.ensures.refused

-- no message was ended
pub returns-in_default-clause-heard : goal.returns-in_default-clause-heard
returns-in_default-clause-heard g c name before heard came events old h p =
    hearing_on name before c.args.link came heard events c.args.core.now.space c.args.decoder.now c.feed.new.self c.next.new.self c.args.bytes.now h
    c.in-Ok.count c.in-Ok.ensures.ok c.in-Ok.ensures.stands c.next.result c.next.ensures.message c.next.ensures.taken c.next.ensures.stands old _ c.in_default.is p

-- some bytes were taken
pub returns-then-branch-clause-within : goal.returns-then-branch-clause-within
returns-then-branch-clause-within g c =
    let (heard, came, f) = c.requires.following in (
      feeds_some c.args.decoder.now c.feed.new.self c.next.new.self heard c.args.bytes.now came c.in-Ok.count f c.in-Ok.ensures.ok c.in-Ok.ensures.stands c.requires.some,
      c.in-Ok.ensures.ok.within,
    )

-- a message was ended, and its link is open behind it
pub returns-then-branch-clause-heard : goal.returns-then-branch-clause-heard
returns-then-branch-clause-heard g c name before heard came events old h p =
    hearing_arrives name before c.args.link came heard events c.args.core.now.space c.args.decoder.now c.feed.new.self c.next.new.self c.args.bytes.now h
    c.in-Ok.count c.in-Ok.ensures.ok c.in-Ok.ensures.stands c.next.result c.next.ensures.message c.next.ensures.taken c.next.ensures.stands c.in-Some.framed c.in-Some.is
    c.take_message.new.core.space old _ _ p (subst (λ b. TakesFramed c.args.link c.args.core.now.space c.in-Some.framed c.take_message.new.core.space
    (seen (g.K.Sink.given c.args.sink.now) (g.K.Sink.faults c.args.sink.now) c.args.steps.now) (seen (g.K.Sink.given c.take_message.new.sink) (g.K.Sink.faults c.take_message.new.sink) c.take_message.new.steps)
    (Ok b)) c.if-branch.true c.in_ok-take_message.ensures.taken)

-- a message was ended, and its link isn't
pub returns-else-branch-clause-heard : goal.returns-else-branch-clause-heard
returns-else-branch-clause-heard g c name before heard came events old h p =
    hearing_stops name before c.args.link came heard events c.args.core.now.space c.args.decoder.now c.feed.new.self c.next.new.self c.args.bytes.now h
    c.in-Ok.count c.in-Ok.ensures.ok c.in-Ok.ensures.stands c.next.result c.next.ensures.message c.next.ensures.taken c.next.ensures.stands c.in-Some.framed c.in-Some.is
    c.take_message.new.core.space old _ _ p c.next.new.self (subst (λ b. TakesFramed c.args.link c.args.core.now.space c.in-Some.framed c.take_message.new.core.space
    (seen (g.K.Sink.given c.args.sink.now) (g.K.Sink.faults c.args.sink.now) c.args.steps.now) (seen (g.K.Sink.given c.take_message.new.sink) (g.K.Sink.faults c.take_message.new.sink) c.take_message.new.steps)
    (Ok b)) c.if-branch.false c.in_ok-take_message.ensures.taken)

-- a fault came where the link was to be stopped
pub returns-in_err-refuse-in-Err-clause-heard : goal.returns-in_err-refuse-in-Err-clause-heard
returns-in_err-refuse-in-Err-clause-heard g c name before heard came events old h p =
    let e = err_from_is_err_and c.from_residual.result c.from_residual.ensures.1 in
    rw (e.1, e.2) (refused_fault name before c.args.link came heard events c.args.core.now.space c.args.decoder.now c.feed.new.self c.feed.new.self c.args.bytes.now h
    c.in-Err.stop c.refuse.new.core.space old _ _ _ c.in-Err.ensures.stands p c.in_err-refuse-in-Err.ensures.refused)

-- a fault came at a message
pub returns-in_err-take_message-clause-heard : goal.returns-in_err-take_message-clause-heard
returns-in_err-take_message-clause-heard g c name before heard came events old h p =
    let e = err_from_is_err_and c.from_residual-in_err-take_message.result c.from_residual-in_err-take_message.ensures.1 in
    rw (e.1, e.2) (hearing_fault name before c.args.link came heard events c.args.core.now.space c.args.decoder.now c.feed.new.self c.next.new.self c.args.bytes.now h
    c.in-Ok.count c.in-Ok.ensures.ok c.in-Ok.ensures.stands c.next.result c.next.ensures.message c.next.ensures.taken c.next.ensures.stands c.in-Some.framed c.in-Some.is
    c.take_message.new.core.space old _ _ p _ c.in_err-take_message.ensures.taken)
