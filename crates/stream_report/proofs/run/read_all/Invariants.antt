use Rattle.std.proofs.Common.{◌<◌, ℕ, List}
use Rattle.stream_report.specs.Ending.{outside}
use Rattle.stream_report.specs.Turn.{Reading}
use Rattle.stream_report.proofs.run.read_all.Given as goal

-- some bytes were read and reported, and some may still be read
abbrev pub invariant-loop-count : goal.invariant-loop-count
invariant-loop-count g l = record {
  some : 0 < l.left;
  read : (read : List ℕ) × Reading l.fn.report
      (outside (g.S.Source.left l.fn.source) (g.K.Sink.given l.fn.sink) (g.S.Source.faults l.fn.source) (g.K.Sink.faults l.fn.sink))
      (outside (g.S.Source.left l.source) (g.K.Sink.given l.sink) (g.S.Source.faults l.source) (g.K.Sink.faults l.sink))
      read l.left l.reporter;
}

abbrev pub decreases-loop-count : goal.decreases-loop-count
decreases-loop-count g l = l.left
