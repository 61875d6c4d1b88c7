-- The tokens of a query make it.
use Rattle.sparql_read.proofs.QueriesMade.{queries_made}
use Rattle.sparql_read.proofs.laws.queries_are_drafted.Goals as goal

pub returns : goal.returns
returns c = queries_made
