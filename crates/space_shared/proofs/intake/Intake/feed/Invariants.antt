use Rattle.std.proofs.Common.{◌≡◌, ◌+◌, ◌++◌, ℕ, List, length}
use Rattle.space_turn.specs.Sights.{IsSameSeat}
use Rattle.space_shared.specs.Exchanges.{SeatSight, HasOpened}
use Rattle.space_shared.specs.Listening.{Listens, IsListening}
use Rattle.space_shared.proofs.intake.Intake.feed.Given as goal

-- a prefix of the bytes was taken, and its messages were delivered
abbrev pub invariant-loop-rest : goal.invariant-loop-rest
invariant-loop-rest g l = record {
  seat : IsSameSeat l.fn.seat l.seat;
  opened : HasOpened l.seat l.fn.self.link;
  link : l.self.link ≡ l.fn.self.link;
  taken : l.self.decoder.taken + length l.rest ≡ l.fn.self.decoder.taken + length l.fn.bytes;
  listening : IsListening l.self l.seat;
  front : (front : List ℕ) × (front ++ l.rest ≡ l.fn.bytes) × ((link : ℕ) (first : SeatSight) (read : List ℕ)
      → Listens link first read l.fn.self l.fn.seat → Listens link first (read ++ front) l.self l.seat);
}

abbrev pub decreases-loop-rest : goal.decreases-loop-rest
decreases-loop-rest g l = length l.rest
