use Rattle.std.proofs.Common.{◌<◌, ℕ, List}
use Rattle.sib_replay.specs.Ending.{outside}
use Rattle.sib_replay.specs.Turn.{Turns}
use Rattle.sib_replay.proofs.run.read_all.Given as goal

-- some bytes were read and answered, and some may still be read
abbrev pub invariant-loop-count : goal.invariant-loop-count
invariant-loop-count g l = record {
  some : 0 < l.left;
  read : (read : List ℕ) × Turns l.fn.name
      (outside (g.S.Source.left l.fn.source) (g.K.Sink.given l.fn.sink) (g.S.Source.faults l.fn.source) (g.K.Sink.faults l.fn.sink) l.fn.steps)
      (outside (g.S.Source.left l.source) (g.K.Sink.given l.sink) (g.S.Source.faults l.source) (g.K.Sink.faults l.sink) l.steps)
      read l.left l.replay;
}

abbrev pub decreases-loop-count : goal.decreases-loop-count
decreases-loop-count g l = l.left
