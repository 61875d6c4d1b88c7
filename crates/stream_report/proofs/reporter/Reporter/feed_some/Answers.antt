use Rattle.std.proofs.lemmas.Result.{err_from_is_err_and}
use Rattle.ssap_hearing.proofs.Following.{feeds_some}
use Rattle.stream_report.proofs.MessagesGiven.{fed_halts, fed_on, fed_next, fed_fails}
use Rattle.stream_report.proofs.reporter.Reporter.feed_some.Goals as goal

-- the decoder stopped
pub returns-in-Err-clause-feeds : goal.returns-in-Err-clause-feeds
returns-in-Err-clause-feeds g c report old read x =
    fed_halts report old _ read c.args.self.now x c.args.bytes.now c.feed.new.self _ c.in-Err.stop c.halt.result _ c.in-Err.ensures.stands c.halt.ensures

-- no message was ended
pub returns-in_default-clause-feeds : goal.returns-in_default-clause-feeds
returns-in_default-clause-feeds g c report old read x =
    fed_on report old _ read c.args.self.now x c.args.bytes.now c.feed.new.self c.next.new.self c.in-Ok.count c.in-Ok.ensures.ok c.in-Ok.ensures.stands
    c.next.result c.next.ensures.message c.next.ensures.taken c.next.ensures.stands c.in_default.is

-- what the message gives was not given whole
pub returns-in_err-write_message-clause-feeds : goal.returns-in_err-write_message-clause-feeds
returns-in_err-write_message-clause-feeds g c report old read x =
    let e = err_from_is_err_and c.from_residual.result c.from_residual.ensures.1 in
    rw (e.1, e.2) (fed_fails report old _ read c.args.self.now x c.args.bytes.now c.feed.new.self c.next.new.self c.in-Ok.count c.in-Ok.ensures.ok c.in-Ok.ensures.stands
    c.next.result c.next.ensures.message c.next.ensures.taken c.next.ensures.stands c.in-Some.framed c.in-Some.is _ _ _ c.in_err-write_message.ensures.0 c.in_err-write_message.ensures.1)

-- a message was ended, and what it gives was given
pub returns-clause-feeds : goal.returns-clause-feeds
returns-clause-feeds g c report old read x =
    fed_next report old _ read c.args.self.now x c.args.bytes.now c.feed.new.self c.next.new.self c.in-Ok.count c.in-Ok.ensures.ok c.in-Ok.ensures.stands
    c.next.result c.next.ensures.message c.next.ensures.taken c.next.ensures.stands c.in-Some.framed c.in-Some.is _
    (feeds_some c.args.self.now.decoder c.feed.new.self c.next.new.self read c.args.bytes.now c.args.self.now.messages c.in-Ok.count x.follows c.in-Ok.ensures.ok c.in-Ok.ensures.stands c.requires.some)
    c.in-Ok.ensures.ok.within c.in_ok-write_message.ensures
