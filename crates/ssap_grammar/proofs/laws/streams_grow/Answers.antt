-- What follows a stream is read behind its last message.
use Rattle.ssap_grammar.proofs.StreamEnds.{nothing_streams, spaces_add, message_add}
use Rattle.ssap_grammar.proofs.laws.streams_grow.Goals as goal

pub returns-clause-nothing : goal.returns-clause-nothing
returns-clause-nothing c = nothing_streams

pub returns-clause-spaces : goal.returns-clause-spaces
returns-clause-spaces c = spaces_add

pub returns-clause-message : goal.returns-clause-message
returns-clause-message c = message_add
