use Rattle.std.proofs.Common.{◌≡◌}
use Rattle.count_calls.proofs.seats.counted.Given as goal

abbrev pub invariant-loop : goal.invariant-loop
invariant-loop g l = l.seat.turn ≡ l.initial.seat.turn
