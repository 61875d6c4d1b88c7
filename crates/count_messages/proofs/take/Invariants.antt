use Rattle.std.proofs.Common.{◌≤◌, length}
use Rattle.count_messages.specs.declared.TheConstants.{BUFFER}
use Rattle.count_messages.proofs.take.Given as goal

-- what is left is no longer than the piece
abbrev pub invariant-loop : goal.invariant-loop
invariant-loop l = length l.rest ≤ BUFFER
