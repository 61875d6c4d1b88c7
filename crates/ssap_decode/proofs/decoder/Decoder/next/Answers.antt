-- The message that waits is the next one.
use Rattle.ssap_decode.proofs.Standing.{next_at}
use Rattle.ssap_decode.specs.contracts.decoder.Decoder.{the_view}
use Rattle.ssap_decode.proofs.decoder.Decoder.next.Goals as goal

pub returns-clause-stands : goal.returns-clause-stands
returns-clause-stands c = next_at (the_view c.self.inside) c.args.self.now c.take.result c.take.new.self c.self.view_is c.take.ensures.value c.take.ensures.after
