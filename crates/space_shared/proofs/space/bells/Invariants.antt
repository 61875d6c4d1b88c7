use Rattle.std.proofs.Common.{◌-◌, ◌≤◌, vec_len}
use Rattle.space_shared.proofs.space.bells.Given as goal

-- there are no more bells than there should be
abbrev pub invariant-loop-bells : goal.invariant-loop-bells
invariant-loop-bells l = vec_len l.bells ≤ 256

abbrev pub decreases-loop-bells : goal.decreases-loop-bells
decreases-loop-bells l = 256 - vec_len l.bells
