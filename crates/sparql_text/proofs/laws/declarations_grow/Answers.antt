-- A declaration is found where its three tokens stand.
use Rattle.sparql_text.proofs.DeclarationsGrowing as grown
use Rattle.sparql_text.proofs.laws.declarations_grow.Goals as goal

pub returns : goal.returns
returns c = grown.declarations_grow
