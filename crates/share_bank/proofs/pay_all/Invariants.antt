use Rattle.std.proofs.Common.{◌≡◌}
use Rattle.share_bank.proofs.pay_all.Given as goal

abbrev pub invariant-loop : goal.invariant-loop
invariant-loop g l = l.seat.turn ≡ l.initial.seat.turn
