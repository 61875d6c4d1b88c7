use Rattle.std.proofs.Common.{◌≡◌, ◌+◌, drop}
use Rattle.ssap_machine.specs.Choosing.{common}
use Rattle.ssap_machine.proofs.choice.common_front.Given as goal

-- what is behind the place adds what it has in common
abbrev pub invariant-loop-at : goal.invariant-loop-at
invariant-loop-at l = common l.word l.bytes ≡ l.at + common (drop l.at l.word) (drop l.at l.bytes)
