-- What is computed of a text is what it says.
use Rattle.sparql_read.proofs.QueriesMade.{queries_made}
use Rattle.sparql_read.proofs.ReadingsExact.{readings_exact}
use Rattle.sparql_read.proofs.laws.readings_are_exact.Goals as goal

pub returns : goal.returns
returns c = readings_exact queries_made
