-- A new decoder has nothing of a message, and stands for nothing.
use Rattle.std.proofs.Common.{inl, [], refl, sym}
use Rattle.ssap_decode.proofs.Spelled.{fresh_kept}
use Rattle.ssap_decode.proofs.Standing.{fresh_stands, stands_as}
use Rattle.ssap_decode.proofs.decoder.Decoder.new.Goals as goal

pub invariant_of-result : goal.invariant_of-result
invariant_of-result c = fresh_kept c.new.result.items c.message.result c.new.ensures.items c.message.ensures 0

pub returns-clause-stands : goal.returns-clause-stands
returns-clause-stands c = stands_as _ _ [] 0 (sym c.new.ensures.items) refl refl (inl refl) fresh_stands
