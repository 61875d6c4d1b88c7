use Rattle.std.proofs.Common.{◌≡◌, ◌<◌, ℕ, List}
use Rattle.space_turn.specs.Sights.{IsSameSeat}
use Rattle.space_shared.specs.Exchanges.{HasOpened}
use Rattle.space_shared.specs.Input.{inlet}
use Rattle.space_shared.specs.Reads.{Reading}
use Rattle.space_shared.proofs.incoming.read_all.Given as goal

-- some bytes were read and their messages delivered, and some may still be read
abbrev pub invariant-loop-count : goal.invariant-loop-count
invariant-loop-count g l = record {
  some : 0 < l.left;
  seat : IsSameSeat l.fn.seat l.seat;
  opened : HasOpened l.seat l.fn.link;
  link : l.intake.link ≡ l.fn.link;
  read : (read : List ℕ) × Reading l.fn.link l.fn.seat (inlet (g.S.Source.left l.fn.source) (g.S.Source.faults l.fn.source))
      (inlet (g.S.Source.left l.source) (g.S.Source.faults l.source)) read l.left l.intake l.seat;
}

abbrev pub decreases-loop-count : goal.decreases-loop-count
decreases-loop-count g l = l.left
