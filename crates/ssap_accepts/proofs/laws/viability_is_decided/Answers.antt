-- Bytes are a stream, and then a part of a message or bytes that lead to none.
use Rattle.ssap_accepts.proofs.Existing.{viability_is_decided}
use Rattle.ssap_accepts.proofs.laws.viability_is_decided.Goals as goal

pub returns : goal.returns
returns c = viability_is_decided
