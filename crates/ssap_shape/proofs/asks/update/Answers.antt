-- No graph has a blank node.
use Rattle.ssap_shape.proofs.Found.{terms_insert, terms_remove}
use Rattle.ssap_shape.proofs.asks.update.Goals as goal

pub given_templates-requires : goal.given_templates-requires
given_templates-requires c = terms_remove c.args.params.now c.requires

pub given_templates-requires-2 : goal.given_templates-requires-2
given_templates-requires-2 c = terms_insert c.args.params.now c.requires
