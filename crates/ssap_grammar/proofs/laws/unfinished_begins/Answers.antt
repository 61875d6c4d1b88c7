-- No white space and no whole message stands behind the whole messages of the bytes.
use Rattle.ssap_grammar.proofs.StreamEnds.{unfinished_begins}
use Rattle.ssap_grammar.proofs.laws.unfinished_begins.Goals as goal

pub returns : goal.returns
returns c = unfinished_begins
