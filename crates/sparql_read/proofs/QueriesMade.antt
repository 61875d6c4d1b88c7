-- The tokens of a query make it, and it alone.
use Rattle.sparql_read.specs.Drafting.{QueriesAreDrafted}
use Rattle.sparql_read.proofs.ConditionsDrafted.{filter_drafted}
use Rattle.sparql_read.proofs.QueriesDrafted.{queries_are_drafted}

pub queries_made : QueriesAreDrafted
queries_made = queries_are_drafted filter_drafted
