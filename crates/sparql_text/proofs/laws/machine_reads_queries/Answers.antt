-- Proved for each symbol and each production.
use Rattle.sparql_text.proofs.Completions.{takes_viable, ends_whole}
use Rattle.sparql_text.proofs.laws.machine_reads_queries.Goals as goal

pub returns-clause-viable : goal.returns-clause-viable
returns-clause-viable c = takes_viable

pub returns-clause-whole : goal.returns-clause-whole
returns-clause-whole c = ends_whole
