use Rattle.std.proofs.Common.{ℕ, ◌<◌, slice_index}
use Rattle.ssap_grammar.specs.Characters.{IsWhite}
use Rattle.ssap_machine.proofs.step.white_len.Given as goal

-- all bytes so far are white space
abbrev pub invariant-loop-at : goal.invariant-loop-at
invariant-loop-at l = (k : ℕ) → k < l.at → IsWhite (slice_index l.bytes k)
