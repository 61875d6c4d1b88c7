use Rattle.std.proofs.Common.{◌≤◌}
use Rattle.tests_messages.proofs.machine.read_bytewise.Given as goal

-- what is done has been fed
abbrev pub invariant-loop-end : goal.invariant-loop-end
invariant-loop-end l = l.done ≤ l.end
