-- The number of a subscription is a text.
use Rattle.ssap_shape.proofs.Found.{number_text}
use Rattle.ssap_shape.proofs.asks.ask.Goals as goal

pub given_text-requires : goal.given_text-requires
given_text-requires c = number_text c.args.envelope.now c.requires c.in-Unsubscribe.is
