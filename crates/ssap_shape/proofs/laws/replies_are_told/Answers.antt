-- Each parameter stands once and is read back.
use Rattle.ssap_shape.proofs.RepliesTold.{confirms_told, indications_told}
use Rattle.ssap_shape.proofs.laws.replies_are_told.Goals as goal

pub returns-clause-confirms : goal.returns-clause-confirms
returns-clause-confirms c = confirms_told

pub returns-clause-indications : goal.returns-clause-indications
returns-clause-indications c = indications_told
