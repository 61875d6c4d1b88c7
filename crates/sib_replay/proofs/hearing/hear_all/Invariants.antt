use Rattle.std.proofs.Common.{◌≡◌, ◌+◌, ◌++◌, ℕ, List, length}
use Rattle.sib_replay.specs.Doing.{seen, Does}
use Rattle.sib_replay.specs.Output.{Event, space_after, answers_after, rows_after}
use Rattle.sib_replay.specs.Session.{IsFollowing, IsDrained, Follows, Hearing}
use Rattle.sib_replay.proofs.hearing.hear_all.Given as goal

-- a prefix of the bytes was taken and answered
abbrev pub invariant-loop-rest : goal.invariant-loop-rest
invariant-loop-rest g l = record {
  taken : l.decoder.taken + length l.rest ≡ l.fn.decoder.taken + length l.fn.bytes;
  following : IsFollowing l.decoder;
  drained : IsDrained l.core.space;
  front : (front : List ℕ) × (front ++ l.rest ≡ l.fn.bytes) × ((name : List ℕ) (before : List Event) (heard : List ℕ) (came : ℕ) → l.fn.core.space ≡ space_after name before
      → Follows l.fn.decoder heard came → (events : List Event) × Hearing name before l.link came (heard ++ front) events l.core.space l.decoder
      × Does (seen (g.K.Sink.given l.fn.sink) (g.K.Sink.faults l.fn.sink) l.fn.steps) (seen (g.K.Sink.given l.sink) (g.K.Sink.faults l.sink) l.steps)
      (answers_after name before events) (rows_after name before events));
}

abbrev pub decreases-loop-rest : goal.decreases-loop-rest
decreases-loop-rest g l = length l.rest
