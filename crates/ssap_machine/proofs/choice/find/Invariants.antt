use Rattle.std.proofs.Common.{◌≡◌, drop}
use Rattle.ssap_machine.specs.Choosing.{found}
use Rattle.ssap_machine.proofs.choice.find.Given as goal

-- what is found is what will be found among the candidates that are left
abbrev pub invariant-loop-candidate : goal.invariant-loop-candidate
invariant-loop-candidate l = found 0 l.candidates l.bytes ≡ found l.longest (drop l.candidate-index l.candidates) l.bytes
