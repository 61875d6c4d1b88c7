use Rattle.std.proofs.Common.{length}
use Rattle.ssap_text.specs.Pieces.{Reads}
use Rattle.ssap_text.proofs.pieces.parts.Given as goal

-- the values so far are a reading of the bytes up to the rest
abbrev pub invariant-loop-end : goal.invariant-loop-end
invariant-loop-end l = Reads l.end l.values.items l.bytes l.rest

abbrev pub decreases-loop-end : goal.decreases-loop-end
decreases-loop-end l = length l.rest
