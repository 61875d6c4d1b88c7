use Rattle.std.proofs.Common.{◌≡◌}
use Rattle.follow_query.proofs.asking.confirmed.Given as goal

-- the client awaits its confirm as at first
abbrev pub invariant-loop : goal.invariant-loop
invariant-loop g l = l.client ≡ l.fn.client
