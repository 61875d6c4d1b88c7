use Rattle.std.proofs.Common.{◌≡◌}
use Rattle.serve_links.specs.Serving.{outside, Serving}
use Rattle.serve_links.proofs.serve.counted.Given as goal

-- the seat is of the same turn, and the server serves on
abbrev pub invariant-loop : goal.invariant-loop
invariant-loop g l = (l.seat.turn ≡ l.fn.seat.turn)
    × Serving l.fn.seat.root (outside (g.A.Accept.waiting l.fn.accept) (g.P.Spawner.begun l.fn.spawner) (g.A.Accept.faults l.fn.accept) (g.P.Spawner.faults l.fn.spawner))
    (outside (g.A.Accept.waiting l.accept) (g.P.Spawner.begun l.spawner) (g.A.Accept.faults l.accept) (g.P.Spawner.faults l.spawner)) l.seat
