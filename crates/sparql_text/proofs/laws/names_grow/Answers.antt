-- Of names and one more that one is added where it is none of the others.
use Rattle.sparql_text.proofs.NamesGrowing as grown
use Rattle.sparql_text.proofs.laws.names_grow.Goals as goal

pub returns : goal.returns
returns c = grown.names_grow
