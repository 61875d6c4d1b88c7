use Rattle.std.proofs.Common.{arith, [], ◌++◌}
use Rattle.sib_replay.specs.Ending.{Outside, outside}
use Rattle.sib_replay.proofs.TurnLemmas.{turns_start}
use Rattle.sib_replay.proofs.run.read_all.Goals as goal

-- nothing was read yet
pub loop-count-init : goal.loop-count-init
loop-count-init g c = record {
  some = omega arith;
  read = ([], turns_start c.args.name _ c.new-replay.result c.new-replay.ensures.reader c.new-replay.ensures.session);
}

-- a piece more was read and answered
pub loop-count-preserved : goal.loop-count-preserved
loop-count-preserved g c =
    let (read, turns) = c.loop-count.invariant.read in
    let old : Outside = outside (g.S.Source.left c.args.source.now) (g.K.Sink.given c.args.sink.now) (g.S.Source.faults c.args.source.now) (g.K.Sink.faults c.args.sink.now) c.args.steps.now in
    let (piece, more) = c.in-Ok.ensures.turned c.args.name old read turns in
    record {
      some = omega (arith, c.in-Ok.ensures.within);
      read = (read ++ piece, more);
    }

-- the replay ended
pub returns-in-Err : goal.returns-in-Err
returns-in-Err g c =
    let (read, turns) = c.loop-count.invariant.read in
    let old : Outside = outside (g.S.Source.left c.args.source.now) (g.K.Sink.given c.args.sink.now) (g.S.Source.faults c.args.source.now) (g.K.Sink.faults c.args.sink.now) c.args.steps.now in
    c.in-Err.ensures.turned c.args.name old read turns
