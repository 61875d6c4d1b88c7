use Rattle.std.proofs.Common.{length}
use Rattle.ssap_grammar.specs.Characters.{Spaces}
use Rattle.ssap_text.proofs.spaces.skip_spaces.Given as goal

abbrev pub invariant-loop-rest : goal.invariant-loop-rest
invariant-loop-rest l = Spaces l.bytes l.rest

abbrev pub decreases-loop-rest : goal.decreases-loop-rest
decreases-loop-rest l = length l.rest
