use Rattle.std.proofs.Common.{◌-◌, length}
use Rattle.ssap_machine.proofs.Advancing.{Leads}
use Rattle.ssap_machine.proofs.progress.advance.Given as goal

-- the bytes so far lead to the symbols of the stack
abbrev pub invariant-loop-stack : goal.invariant-loop-stack
invariant-loop-stack l = Leads l.initial.stack l.bytes l.from l.stack

-- bytes are left
abbrev pub decreases-loop-stack : goal.decreases-loop-stack
decreases-loop-stack l = length l.bytes - l.from
