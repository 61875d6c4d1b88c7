-- One message after another is told, and its place is what stands before it.
use Rattle.ssap_grammar.proofs.Streams.{streams_once, messages_stay}
use Rattle.ssap_grammar.proofs.laws.messages_stay.Goals as goal

pub returns-clause-once : goal.returns-clause-once
returns-clause-once c = streams_once

pub returns-clause-stay : goal.returns-clause-stay
returns-clause-stay c = messages_stay
