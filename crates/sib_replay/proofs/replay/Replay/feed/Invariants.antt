use Rattle.std.proofs.Common.{◌≡◌, ◌+◌, ◌++◌, ℕ, List, length}
use Rattle.sib_replay.specs.Doing.{Seen, seen}
use Rattle.sib_replay.specs.Session.{Replays, IsOngoing}
use Rattle.sib_replay.proofs.replay.Replay.feed.Given as goal

-- a prefix of the bytes was read and answered
abbrev pub invariant-loop-rest : goal.invariant-loop-rest
invariant-loop-rest g l = record {
  taken : l.self.reader.taken + length l.rest ≡ l.fn.self.reader.taken + length l.fn.bytes;
  ongoing : IsOngoing l.self.reader l.self.session;
  front : (front : List ℕ) × (front ++ l.rest ≡ l.fn.bytes) × ((name : List ℕ) (old : Seen) (read : List ℕ)
      → Replays name old (seen (g.K.Sink.given l.fn.sink) (g.K.Sink.faults l.fn.sink) l.fn.steps) read l.fn.self.reader l.fn.self.session
      → Replays name old (seen (g.K.Sink.given l.sink) (g.K.Sink.faults l.sink) l.steps) (read ++ front) l.self.reader l.self.session);
}

abbrev pub decreases-loop-rest : goal.decreases-loop-rest
decreases-loop-rest g l = length l.rest
