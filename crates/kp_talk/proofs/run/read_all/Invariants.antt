use Rattle.std.proofs.Common.{◌<◌, ℕ, List, []}
use Rattle.ssap_decode.specs.Decoding.{fresh}
use Rattle.kp_talk.specs.Ending.{Outside, outside}
use Rattle.kp_talk.specs.Turn.{Talking}
use Rattle.kp_talk.specs.declared.errand.Errand.{Errand}
use Rattle.sib_io.specs.declared.reading.TheConstants.{INPUT_LIMIT}
use Rattle.kp_talk.proofs.run.read_all.Given as goal

-- some bytes were read and answered, and some may still be read
abbrev pub invariant-loop-count : goal.invariant-loop-count
invariant-loop-count g l = record {
  some : 0 < l.left;
  talking : (errand : Errand) (old : Outside)
      → Talking errand old (outside (g.S.Source.left l.fn.source) (g.K.Sink.given l.fn.sink) (g.O.Sink.given l.fn.out) (g.S.Source.faults l.fn.source) (g.K.Sink.faults l.fn.sink) (g.O.Sink.faults l.fn.out))
      [] INPUT_LIMIT l.fn.party fresh
      → (read : List ℕ) × Talking errand old (outside (g.S.Source.left l.source) (g.K.Sink.given l.sink) (g.O.Sink.given l.out) (g.S.Source.faults l.source) (g.K.Sink.faults l.sink) (g.O.Sink.faults l.out))
      read l.left l.party l.decoder;
}

abbrev pub decreases-loop-count : goal.decreases-loop-count
decreases-loop-count g l = l.left
