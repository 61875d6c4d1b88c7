use Rattle.std.proofs.Common.{arith, sym, subst, [], ◌++◌}
use Rattle.stream_report.specs.Ending.{Outside, outside}
use Rattle.stream_report.specs.Turn.{Reading}
use Rattle.sib_io.specs.declared.reading.TheConstants.{INPUT_LIMIT}
use Rattle.stream_report.proofs.ReadsGoOn.{turns_start}
use Rattle.stream_report.proofs.run.read_all.Goals as goal

-- nothing was read yet
pub loop-count-init : goal.loop-count-init
loop-count-init g c =
    let old : Outside = outside (g.S.Source.left c.args.source.now) (g.K.Sink.given c.args.sink.now) (g.S.Source.faults c.args.source.now) (g.K.Sink.faults c.args.sink.now) in
    record {
      some = omega arith;
      read = ([], subst (Reading c.args.report old old [] INPUT_LIMIT) (sym c.new-reporter.ensures) (turns_start c.args.report old));
    }

-- some report is read on
pub turn-requires-clause-reading : goal.turn-requires-clause-reading
turn-requires-clause-reading g c =
    let (read, reading) = c.loop-count.invariant.read in
    let old : Outside = outside (g.S.Source.left c.args.source.now) (g.K.Sink.given c.args.sink.now) (g.S.Source.faults c.args.source.now) (g.K.Sink.faults c.args.sink.now) in
    (c.args.report, old, read, reading)

-- a piece more was read and reported
pub loop-count-preserved : goal.loop-count-preserved
loop-count-preserved g c =
    let (read, reading) = c.loop-count.invariant.read in
    let old : Outside = outside (g.S.Source.left c.args.source.now) (g.K.Sink.given c.args.sink.now) (g.S.Source.faults c.args.source.now) (g.K.Sink.faults c.args.sink.now) in
    let (piece, more) = c.in-Ok.ensures.turned c.args.report old read reading in
    record { some = omega (arith, c.in-Ok.ensures.within); read = (read ++ piece, more) }

-- the report ended
pub returns-in-Err : goal.returns-in-Err
returns-in-Err g c =
    let (read, reading) = c.loop-count.invariant.read in
    let old : Outside = outside (g.S.Source.left c.args.source.now) (g.K.Sink.given c.args.sink.now) (g.S.Source.faults c.args.source.now) (g.K.Sink.faults c.args.sink.now) in
    c.in-Err.ensures.turned c.args.report old read reading
