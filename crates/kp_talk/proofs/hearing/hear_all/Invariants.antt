use Rattle.std.proofs.Common.{◌≡◌, ◌+◌, ◌++◌, ℕ, List, length}
use Rattle.kp_talk.specs.Saying.{Outlets, outlets}
use Rattle.kp_talk.specs.Listening.{Listens, IsListening}
use Rattle.kp_talk.specs.declared.errand.Errand.{Errand}
use Rattle.kp_talk.proofs.hearing.hear_all.Given as goal

-- a prefix of the bytes was heard and answered
abbrev pub invariant-loop-rest : goal.invariant-loop-rest
invariant-loop-rest g l = record {
  taken : l.decoder.taken + length l.rest ≡ l.fn.decoder.taken + length l.fn.bytes;
  listening : IsListening l.party l.decoder;
  front : (front : List ℕ) × (front ++ l.rest ≡ l.fn.bytes) × ((errand : Errand) (old : Outlets) (heard : List ℕ)
      → Listens errand old (outlets (g.K.Sink.given l.fn.sink) (g.O.Sink.given l.fn.out) (g.K.Sink.faults l.fn.sink) (g.O.Sink.faults l.fn.out)) heard l.fn.party l.fn.decoder
      → Listens errand old (outlets (g.K.Sink.given l.sink) (g.O.Sink.given l.out) (g.K.Sink.faults l.sink) (g.O.Sink.faults l.out)) (heard ++ front) l.party l.decoder);
}

abbrev pub decreases-loop-rest : goal.decreases-loop-rest
decreases-loop-rest g l = length l.rest
