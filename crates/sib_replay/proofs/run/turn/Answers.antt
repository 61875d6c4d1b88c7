use Rattle.std.proofs.Common.{◌≡◌, ap, refl, subst, arith, ℕ, ◌++◌, ◌<◌, List, take, length, length-take, length-append}
use Rattle.std.proofs.lemmas.Result.{err_from_is_err_and}
use Rattle.sib_io.specs.declared.reading.TheConstants.{INPUT_LIMIT}
use Rattle.sib_replay.specs.Doing.{seen}
use Rattle.sib_replay.specs.Ending.{Outside, outside}
use Rattle.sib_replay.specs.Turn.{sink_of}
use Rattle.sib_replay.specs.Session.{Stops, Replays}
use Rattle.sib_replay.proofs.TurnLemmas.{turn_failed, turn_read, turn_finishes, turn_spends, turn_stops, turn_goes_on}
use Rattle.sib_replay.proofs.run.turn.Goals as goal

-- the source failed, or the sink
pub returns-in_err-count-clause-turned : goal.returns-in_err-count-clause-turned
returns-in_err-count-clause-turned g c name old read t =
    let mid : Outside = outside (g.S.Source.left c.read_piece.new.source) (g.K.Sink.given c.read_piece.new.sink) (g.S.Source.faults c.read_piece.new.source) (g.K.Sink.faults c.read_piece.new.sink) c.args.steps.now in
    let p = err_from_is_err_and c.from_residual.result c.from_residual.ensures.1 in
    rw (p.1, p.2) (turn_failed name old _ mid read c.args.left c.args.replay.now c.read_piece.new.buffer t refl _ c.requires.left c.in_err-count.ensures.reads)

-- nothing is left
pub returns-then-count-eq0-clause-turned : goal.returns-then-count-eq0-clause-turned
returns-then-count-eq0-clause-turned g c name old read t =
    let mid : Outside = outside (g.S.Source.left c.read_piece.new.source) (g.K.Sink.given c.read_piece.new.sink) (g.S.Source.faults c.read_piece.new.source) (g.K.Sink.faults c.read_piece.new.sink) c.args.steps.now in
    let m = turn_read name old _ mid read c.args.left c.args.replay.now c.read_piece.new.buffer t refl c.in_ok-count.count c.in_ok-count.ensures.reads in
    turn_finishes name old mid read (take c.in_ok-count.count c.read_piece.new.buffer) c.args.replay.now m _ _ _ (ap (λ n. take n c.read_piece.new.buffer) c.if-count-eq0.true)
    (c.in_ok-count.ensures.reads.3 c.if-count-eq0.true) (omega (arith, t.counted, c.requires.left)) (c.finish.ensures name (sink_of old) c.args.steps.now read m.replays)

-- so many bytes were taken as may be
pub returns-then-count-left-clause-turned : goal.returns-then-count-left-clause-turned
returns-then-count-left-clause-turned g c name old read t =
    let mid : Outside = outside (g.S.Source.left c.read_piece.new.source) (g.K.Sink.given c.read_piece.new.sink) (g.S.Source.faults c.read_piece.new.source) (g.K.Sink.faults c.read_piece.new.sink) c.args.steps.now in
    let piece : List ℕ = take c.in_ok-count.count c.read_piece.new.buffer in
    let m = turn_read name old _ mid read c.args.left c.args.replay.now c.read_piece.new.buffer t refl c.in_ok-count.count c.in_ok-count.ensures.reads in
    turn_spends name old mid read piece c.args.replay.now m
    (omega (arith, t.counted, length-append read piece, length-take c.in_ok-count.count c.read_piece.new.buffer, c.in_ok-count.ensures.within, c.if-count-left.true))

-- what was read could not all be answered
pub returns-in_err-feed-clause-turned : goal.returns-in_err-feed-clause-turned
returns-in_err-feed-clause-turned g c name old read t =
    let mid : Outside = outside (g.S.Source.left c.read_piece.new.source) (g.K.Sink.given c.read_piece.new.sink) (g.S.Source.faults c.read_piece.new.source) (g.K.Sink.faults c.read_piece.new.sink) c.args.steps.now in
    let piece : List ℕ = take c.in_ok-count.count c.read_piece.new.buffer in
    let m = turn_read name old _ mid read c.args.left c.args.replay.now c.read_piece.new.buffer t refl c.in_ok-count.count c.in_ok-count.ensures.reads in
    let below : length (read ++ piece) < INPUT_LIMIT =
    omega (arith, t.counted, length-append read piece, length-take c.in_ok-count.count c.read_piece.new.buffer, c.in_ok-count.ensures.within, c.if-count-left.false)
    in
    let stops = subst (λ (l : List ℕ). Stops name (sink_of old) (seen (g.K.Sink.given c.feed.new.sink) (g.K.Sink.faults c.feed.new.sink) c.feed.new.steps) (read ++ l) c.in_err-feed.field-0.0)
    c.split_at.ensures.front (c.in_err-feed.ensures name (sink_of old) read m.replays)
    in
    let p = err_from_is_err_and c.from_residual-in_err-feed.result c.from_residual-in_err-feed.ensures.1 in
    rw (p.1, p.2) (turn_stops name old mid read piece c.args.replay.now m _ _ _ _ below stops)

-- what was read was answered
pub returns-clause-turned : goal.returns-clause-turned
returns-clause-turned g c name old read t =
    let mid : Outside = outside (g.S.Source.left c.read_piece.new.source) (g.K.Sink.given c.read_piece.new.sink) (g.S.Source.faults c.read_piece.new.source) (g.K.Sink.faults c.read_piece.new.sink) c.args.steps.now in
    let piece : List ℕ = take c.in_ok-count.count c.read_piece.new.buffer in
    let m = turn_read name old _ mid read c.args.left c.args.replay.now c.read_piece.new.buffer t refl c.in_ok-count.count c.in_ok-count.ensures.reads in
    let counted : length piece ≡ c.in_ok-count.count = omega (arith, length-take c.in_ok-count.count c.read_piece.new.buffer, c.in_ok-count.ensures.within) in
    let short : c.in_ok-count.count < c.args.left = omega (arith, c.in_ok-count.ensures.within, c.if-count-left.false) in
    let goes = subst (λ (l : List ℕ). Replays name (sink_of old) (seen (g.K.Sink.given c.feed.new.sink) (g.K.Sink.faults c.feed.new.sink) c.feed.new.steps) (read ++ l) c.feed.new.self.reader c.feed.new.self.session)
    c.split_at.ensures.front (c.in_ok-feed.ensures name (sink_of old) read m.replays)
    in
    (piece, turn_goes_on name old mid read piece c.args.replay.now m _ _ _ c.args.left c.in_ok-count.count c.feed.new.self t.counted counted short goes)
