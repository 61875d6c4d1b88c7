use Rattle.std.proofs.lemmas.Result.{err_from_is_err_and}
use Rattle.ssap_shape.proofs.OneTold.{told_sound}
use Rattle.ssap_hearing.proofs.Following.{feeds_some}
use Rattle.kp_talk.proofs.BytesAreHeard.{heard_stops, heard_on, heard_refused, heard_answers, heard_ends}
use Rattle.kp_talk.proofs.hearing.hear_some.Goals as goal

-- the decoder stopped
pub returns-in-Err-clause-hears : goal.returns-in-Err-clause-hears
returns-in-Err-clause-hears g c errand old heard l =
    rw c.ending_of.ensures (heard_stops errand old _ heard c.args.bytes.now c.args.party.now c.args.decoder.now c.feed.new.self l c.in-Err.stop _ _ c.in-Err.ensures.stands)

-- no message was ended
pub returns-in_default-clause-hears : goal.returns-in_default-clause-hears
returns-in_default-clause-hears g c errand old heard l =
    heard_on errand old _ heard c.args.bytes.now c.args.party.now c.args.decoder.now c.feed.new.self l c.next.new.self c.in-Ok.count c.in-Ok.ensures.ok c.in-Ok.ensures.stands
    c.next.result c.next.ensures.message c.next.ensures.taken c.next.ensures.stands c.in_default.is

-- some bytes were taken
pub returns-in_default-clause-within : goal.returns-in_default-clause-within
returns-in_default-clause-within g c =
    let l = c.requires.listening.4 in (
      feeds_some c.args.decoder.now c.feed.new.self c.next.new.self c.requires.listening.3 c.args.bytes.now l.came c.in-Ok.count l.follows c.in-Ok.ensures.ok c.in-Ok.ensures.stands c.requires.some,
      c.in-Ok.ensures.ok.within,
    )

-- no memory was left to read a message
pub returns-in_err-incoming-clause-hears : goal.returns-in_err-incoming-clause-hears
returns-in_err-incoming-clause-hears g c errand old heard l =
    let e = err_from_is_err_and c.from_residual.result c.from_residual.ensures.1 in
    rw (e.1, e.2) (heard_refused errand old _ heard c.args.bytes.now c.args.party.now c.args.decoder.now c.feed.new.self l)

-- what a message tells is sound
pub hear-requires-clause-sound : goal.hear-requires-clause-sound
hear-requires-clause-sound g c = told_sound c.in-Some.framed.envelope c.in_ok-incoming.incoming c.in_ok-incoming.ensures

-- the message finished the talk, or the answer to it failed
pub returns-in_err-hear-clause-hears : goal.returns-in_err-hear-clause-hears
returns-in_err-hear-clause-hears g c errand old heard l =
    let e = err_from_is_err_and c.from_residual-in_err-hear.result c.from_residual-in_err-hear.ensures.1 in
    rw (e.1, e.2) (heard_ends errand old _ heard c.args.bytes.now c.args.party.now c.args.decoder.now c.feed.new.self l c.next.new.self c.in-Ok.count c.in-Ok.ensures.ok c.in-Ok.ensures.stands
    c.next.result c.next.ensures.message c.next.ensures.taken c.next.ensures.stands c.in-Some.framed c.in-Some.is c.in_ok-incoming.incoming c.in_ok-incoming.ensures
    (Unit {0}) _ _ c.hear.new.self _ _ (c.in_err-hear.ensures errand l.talks.on))

-- some bytes were taken
pub returns-clause-within : goal.returns-clause-within
returns-clause-within g c =
    let l = c.requires.listening.4 in (
      feeds_some c.args.decoder.now c.feed.new.self c.next.new.self c.requires.listening.3 c.args.bytes.now l.came c.in-Ok.count l.follows c.in-Ok.ensures.ok c.in-Ok.ensures.stands c.requires.some,
      c.in-Ok.ensures.ok.within,
    )

-- the message was answered
pub returns-clause-hears : goal.returns-clause-hears
returns-clause-hears g c errand old heard l =
    heard_answers errand old _ heard c.args.bytes.now c.args.party.now c.args.decoder.now c.feed.new.self l c.next.new.self c.in-Ok.count c.in-Ok.ensures.ok c.in-Ok.ensures.stands
    c.next.result c.next.ensures.message c.next.ensures.taken c.next.ensures.stands c.in-Some.framed c.in-Some.is c.in_ok-incoming.incoming c.in_ok-incoming.ensures
    _ c.hear.new.self (c.in_ok-hear.ensures errand l.talks.on)
