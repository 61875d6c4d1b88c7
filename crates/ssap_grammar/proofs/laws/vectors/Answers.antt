-- The messages are read and written so.
use Rattle.ssap_grammar.proofs.VectorReadings.{join_request_read, join_canonical, indication_canonical}
use Rattle.ssap_grammar.proofs.laws.vectors.Goals as goal

pub returns-clause-join_request : goal.returns-clause-join_request
returns-clause-join_request c = join_request_read

pub returns-clause-join_canonical : goal.returns-clause-join_canonical
returns-clause-join_canonical c = join_canonical

pub returns-clause-indication_canonical : goal.returns-clause-indication_canonical
returns-clause-indication_canonical c = indication_canonical
