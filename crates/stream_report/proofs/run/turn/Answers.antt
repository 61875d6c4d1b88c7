use Rattle.std.proofs.Common.{◌≡◌, ap, arith, ℕ, ◌++◌, ◌<◌, List, take, length, length-take, length-append, Ok, Err}
use Rattle.std.proofs.lemmas.Result.{err_from_is_err_and}
use Rattle.stream_report.specs.Ending.{Outside, outside}
use Rattle.stream_report.specs.Giving.{Outlet, outlet}
use Rattle.sib_io.specs.declared.reading.TheConstants.{INPUT_LIMIT}
use Rattle.stream_report.proofs.ReadsGoOn.{turn_failed, turn_read, turn_over, turn_ends, turn_spends, turn_goes_on, feeds_as}
use Rattle.stream_report.proofs.run.turn.Goals as goal

-- the source failed, or the sink
pub returns-in_err-count-clause-turned : goal.returns-in_err-count-clause-turned
returns-in_err-count-clause-turned g c report old read t =
    let mid : Outside = outside (g.S.Source.left c.read_piece.new.source) (g.K.Sink.given c.read_piece.new.sink) (g.S.Source.faults c.read_piece.new.source) (g.K.Sink.faults c.read_piece.new.sink) in
    let p = err_from_is_err_and c.from_residual.result c.from_residual.ensures.1 in
    rw (p.1, p.2) (turn_failed report old _ mid read c.args.left c.args.reporter.now c.read_piece.new.buffer t _ c.requires.left c.in_err-count.ensures.reads)

-- nothing is left
pub returns-then-count-eq0-clause-turned : goal.returns-then-count-eq0-clause-turned
returns-then-count-eq0-clause-turned g c report old read t =
    let mid : Outside = outside (g.S.Source.left c.read_piece.new.source) (g.K.Sink.given c.read_piece.new.sink) (g.S.Source.faults c.read_piece.new.source) (g.K.Sink.faults c.read_piece.new.sink) in
    let next : Outlet = outlet (g.K.Sink.given c.finish.new.sink) (g.K.Sink.faults c.finish.new.sink) in
    let m = turn_read report old _ mid read c.args.left c.args.reporter.now c.read_piece.new.buffer t c.in_ok-count.count c.in_ok-count.ensures.reads in
    turn_over report old mid read (take c.in_ok-count.count c.read_piece.new.buffer) c.args.reporter.now m next c.finish.result
    (ap (λ n. take n c.read_piece.new.buffer) c.if-count-eq0.true) (c.in_ok-count.ensures.reads.3 c.if-count-eq0.true)
    (omega (arith, t.counted, c.requires.left)) (c.finish.ensures report old.outlet read m.reports)

-- so many bytes were taken as may be
pub returns-then-count-left-clause-turned : goal.returns-then-count-left-clause-turned
returns-then-count-left-clause-turned g c report old read t =
    let mid : Outside = outside (g.S.Source.left c.read_piece.new.source) (g.K.Sink.given c.read_piece.new.sink) (g.S.Source.faults c.read_piece.new.source) (g.K.Sink.faults c.read_piece.new.sink) in
    let piece : List ℕ = take c.in_ok-count.count c.read_piece.new.buffer in
    let m = turn_read report old _ mid read c.args.left c.args.reporter.now c.read_piece.new.buffer t c.in_ok-count.count c.in_ok-count.ensures.reads in
    turn_spends report old mid read piece c.args.reporter.now m
    (omega (arith, t.counted, length-append read piece, length-take c.in_ok-count.count c.read_piece.new.buffer, c.in_ok-count.ensures.within, c.if-count-left.true))
    (omega (arith, length-take c.in_ok-count.count c.read_piece.new.buffer, c.in_ok-count.ensures.within, c.in_ok-count.ensures.room, c.requires.small))

-- what was read could not all be reported
pub returns-in_err-feed-clause-turned : goal.returns-in_err-feed-clause-turned
returns-in_err-feed-clause-turned g c report old read t =
    let mid : Outside = outside (g.S.Source.left c.read_piece.new.source) (g.K.Sink.given c.read_piece.new.sink) (g.S.Source.faults c.read_piece.new.source) (g.K.Sink.faults c.read_piece.new.sink) in
    let piece : List ℕ = take c.in_ok-count.count c.read_piece.new.buffer in
    let next : Outlet = outlet (g.K.Sink.given c.feed.new.sink) (g.K.Sink.faults c.feed.new.sink) in
    let m = turn_read report old _ mid read c.args.left c.args.reporter.now c.read_piece.new.buffer t c.in_ok-count.count c.in_ok-count.ensures.reads in
    let below : length (read ++ piece) < INPUT_LIMIT =
    omega (arith, t.counted, length-append read piece, length-take c.in_ok-count.count c.read_piece.new.buffer, c.in_ok-count.ensures.within, c.if-count-left.false)
    in
    let f = feeds_as report old.outlet next read c.split_at.result.0.now piece (Err c.in_err-feed.field-0.0) c.feed.new.self
    (c.in_err-feed.ensures report old.outlet read m.reports) c.split_at.ensures.front
    in
    let p = err_from_is_err_and c.from_residual-in_err-feed.result c.from_residual-in_err-feed.ensures.1 in
    rw (p.1, p.2) (turn_ends report old mid read piece c.args.reporter.now m next _ c.feed.new.self below f)

-- what was read was reported
pub returns-clause-turned : goal.returns-clause-turned
returns-clause-turned g c report old read t =
    let mid : Outside = outside (g.S.Source.left c.read_piece.new.source) (g.K.Sink.given c.read_piece.new.sink) (g.S.Source.faults c.read_piece.new.source) (g.K.Sink.faults c.read_piece.new.sink) in
    let piece : List ℕ = take c.in_ok-count.count c.read_piece.new.buffer in
    let next : Outlet = outlet (g.K.Sink.given c.feed.new.sink) (g.K.Sink.faults c.feed.new.sink) in
    let m = turn_read report old _ mid read c.args.left c.args.reporter.now c.read_piece.new.buffer t c.in_ok-count.count c.in_ok-count.ensures.reads in
    let counted : length piece ≡ c.in_ok-count.count = omega (arith, length-take c.in_ok-count.count c.read_piece.new.buffer, c.in_ok-count.ensures.within) in
    let short : c.in_ok-count.count < c.args.left = omega (arith, c.in_ok-count.ensures.within, c.if-count-left.false) in
    let f = feeds_as report old.outlet next read c.split_at.result.0.now piece (Ok (tt {0})) c.feed.new.self
    (c.in_ok-feed.ensures report old.outlet read m.reports) c.split_at.ensures.front
    in
    (piece, turn_goes_on report old mid read piece c.args.reporter.now m next c.args.left c.in_ok-count.count c.feed.new.self t.counted counted short f)
