use Rattle.ssap_items.specs.Canon.{heads_spelling}
use Rattle.ssap_encode.proofs.message.HeadsSpell.put.Goals as goal

pub returns : goal.returns
unfolding heads_spelling
returns g c = rw (← c.as_bytes.ensures.value, ← c.as_bytes-2.ensures.value, ← c.as_bytes-3.ensures.value) c.put.ensures
