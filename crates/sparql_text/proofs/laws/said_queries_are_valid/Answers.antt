-- By what the tokens of a query count for at least.
use Rattle.sparql_text.proofs.SaidValid.{said_is_valid}
use Rattle.sparql_text.proofs.laws.said_queries_are_valid.Goals as goal

pub returns : goal.returns
returns c = said_is_valid
