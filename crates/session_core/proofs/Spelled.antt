-- A message has bytes.
use Rattle.std.proofs.Common.{◌<◌, length, arith}
use Rattle.ssap_items.specs.Canon.{canonical, element, element_with}
use Rattle.ssap_items.specs.declared.envelope.Envelope.{Envelope}

pub canonical_some : (envelope : Envelope) → 0 < length (canonical envelope)
unfolding canonical element element_with
canonical_some envelope = omega arith
