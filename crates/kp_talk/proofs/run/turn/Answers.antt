use Rattle.std.proofs.Common.{ap, arith, ℕ, ◌++◌, ◌≤◌, List, take, length, length-take, length-append, Ok, Err}
use Rattle.std.proofs.lemmas.Result.{err_from_is_err_and}
use Rattle.kp_talk.specs.Saying.{Outlets, outlets}
use Rattle.kp_talk.specs.Ending.{Outside, outside}
use Rattle.sib_io.specs.declared.reading.TheConstants.{INPUT_LIMIT}
use Rattle.kp_talk.proofs.TurnsGoOn.{turn_failed, turn_read, turn_over, turn_ends, turn_spends, turn_goes_on, hears_as}
use Rattle.kp_talk.proofs.run.turn.Goals as goal

-- the source failed, or a sink
pub returns-in_err-count-clause-turned : goal.returns-in_err-count-clause-turned
returns-in_err-count-clause-turned g c errand old read t =
    let mid : Outside = outside (g.S.Source.left c.read_piece.new.source) (g.K.Sink.given c.read_piece.new.sink) (g.O.Sink.given c.read_piece.new.out) (g.S.Source.faults c.read_piece.new.source) (g.K.Sink.faults c.read_piece.new.sink) (g.O.Sink.faults c.read_piece.new.out) in
    let p = err_from_is_err_and c.from_residual.result c.from_residual.ensures.1 in
    rw (p.1, p.2) (turn_failed errand old _ mid read c.args.left c.args.party.now c.args.decoder.now c.read_piece.new.buffer t _ c.requires.left c.in_err-count.ensures.reads)

-- nothing is left
pub returns-then-count-eq0-clause-turned : goal.returns-then-count-eq0-clause-turned
returns-then-count-eq0-clause-turned g c errand old read t =
    let mid : Outside = outside (g.S.Source.left c.read_piece.new.source) (g.K.Sink.given c.read_piece.new.sink) (g.O.Sink.given c.read_piece.new.out) (g.S.Source.faults c.read_piece.new.source) (g.K.Sink.faults c.read_piece.new.sink) (g.O.Sink.faults c.read_piece.new.out) in
    let m = turn_read errand old _ mid read c.args.left c.args.party.now c.args.decoder.now c.read_piece.new.buffer t c.in_ok-count.count c.in_ok-count.ensures.reads in
    turn_over errand old mid read (take c.in_ok-count.count c.read_piece.new.buffer) c.args.party.now c.args.decoder.now m c.end_of.result
    (ap (λ n. take n c.read_piece.new.buffer) c.if-count-eq0.true) (c.in_ok-count.ensures.reads.3 c.if-count-eq0.true)
    (omega (arith, t.counted, c.requires.left)) (c.end_of.ensures read m.listens.came m.listens.follows)

-- what was read finished the talk, or an answer to it failed
pub returns-in_err-hear_all-clause-turned : goal.returns-in_err-hear_all-clause-turned
returns-in_err-hear_all-clause-turned g c errand old read t =
    let piece : List ℕ = take c.in_ok-count.count c.read_piece.new.buffer in
    let mid : Outside = outside (g.S.Source.left c.read_piece.new.source) (g.K.Sink.given c.read_piece.new.sink) (g.O.Sink.given c.read_piece.new.out) (g.S.Source.faults c.read_piece.new.source) (g.K.Sink.faults c.read_piece.new.sink) (g.O.Sink.faults c.read_piece.new.out) in
    let m = turn_read errand old _ mid read c.args.left c.args.party.now c.args.decoder.now c.read_piece.new.buffer t c.in_ok-count.count c.in_ok-count.ensures.reads in
    let within : length (read ++ piece) ≤ INPUT_LIMIT =
    omega (arith, t.counted, length-append read piece, length-take c.in_ok-count.count c.read_piece.new.buffer, c.in_ok-count.ensures.within)
    in
    let new : Outlets = outlets (g.K.Sink.given c.hear_all.new.sink) (g.O.Sink.given c.hear_all.new.out) (g.K.Sink.faults c.hear_all.new.sink) (g.O.Sink.faults c.hear_all.new.out) in
    let h = hears_as errand old.outlets new read c.split_at.result.0.now piece (Err c.in_err-hear_all.field-0.0) c.hear_all.new.party c.hear_all.new.decoder
    (c.in_err-hear_all.ensures errand old.outlets read m.listens) c.split_at.ensures.front
    in
    let p = err_from_is_err_and c.from_residual-in_err-hear_all.result c.from_residual-in_err-hear_all.ensures.1 in
    rw (p.1, p.2) (turn_ends errand old mid read piece c.args.party.now c.args.decoder.now m new _ c.hear_all.new.party c.hear_all.new.decoder within h)

-- so many bytes were taken as may be
pub returns-then-count-left-clause-turned : goal.returns-then-count-left-clause-turned
returns-then-count-left-clause-turned g c errand old read t =
    let piece : List ℕ = take c.in_ok-count.count c.read_piece.new.buffer in
    let mid : Outside = outside (g.S.Source.left c.read_piece.new.source) (g.K.Sink.given c.read_piece.new.sink) (g.O.Sink.given c.read_piece.new.out) (g.S.Source.faults c.read_piece.new.source) (g.K.Sink.faults c.read_piece.new.sink) (g.O.Sink.faults c.read_piece.new.out) in
    let m = turn_read errand old _ mid read c.args.left c.args.party.now c.args.decoder.now c.read_piece.new.buffer t c.in_ok-count.count c.in_ok-count.ensures.reads in
    let new : Outlets = outlets (g.K.Sink.given c.hear_all.new.sink) (g.O.Sink.given c.hear_all.new.out) (g.K.Sink.faults c.hear_all.new.sink) (g.O.Sink.faults c.hear_all.new.out) in
    let h = hears_as errand old.outlets new read c.split_at.result.0.now piece (Ok (tt {0})) c.hear_all.new.party c.hear_all.new.decoder
    (c.in_ok-hear_all.ensures errand old.outlets read m.listens) c.split_at.ensures.front
    in
    turn_spends errand old mid read piece c.args.party.now c.args.decoder.now m new c.hear_all.new.party c.hear_all.new.decoder
    (omega (arith, t.counted, length-append read piece, length-take c.in_ok-count.count c.read_piece.new.buffer, c.in_ok-count.ensures.within, c.if-count-left.true)) h

-- what was read was answered
pub returns-clause-turned : goal.returns-clause-turned
returns-clause-turned g c errand old read t =
    let piece : List ℕ = take c.in_ok-count.count c.read_piece.new.buffer in
    let mid : Outside = outside (g.S.Source.left c.read_piece.new.source) (g.K.Sink.given c.read_piece.new.sink) (g.O.Sink.given c.read_piece.new.out) (g.S.Source.faults c.read_piece.new.source) (g.K.Sink.faults c.read_piece.new.sink) (g.O.Sink.faults c.read_piece.new.out) in
    let m = turn_read errand old _ mid read c.args.left c.args.party.now c.args.decoder.now c.read_piece.new.buffer t c.in_ok-count.count c.in_ok-count.ensures.reads in
    let new : Outlets = outlets (g.K.Sink.given c.hear_all.new.sink) (g.O.Sink.given c.hear_all.new.out) (g.K.Sink.faults c.hear_all.new.sink) (g.O.Sink.faults c.hear_all.new.out) in
    let h = hears_as errand old.outlets new read c.split_at.result.0.now piece (Ok (tt {0})) c.hear_all.new.party c.hear_all.new.decoder
    (c.in_ok-hear_all.ensures errand old.outlets read m.listens) c.split_at.ensures.front
    in (
      piece,
      turn_goes_on errand old mid read piece c.args.party.now c.args.decoder.now m new c.args.left c.in_ok-count.count c.hear_all.new.party c.hear_all.new.decoder t.counted
          (omega (arith, length-take c.in_ok-count.count c.read_piece.new.buffer, c.in_ok-count.ensures.within)) (omega (arith, c.in_ok-count.ensures.within)) h,
    )
