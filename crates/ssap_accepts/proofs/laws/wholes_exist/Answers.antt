-- The stream before a part of a message, or before bytes that lead to none, is the whole.
use Rattle.ssap_accepts.proofs.Existing.{wholes_exist, messages_exist, places_exist, ends_exist}
use Rattle.ssap_accepts.proofs.laws.wholes_exist.Goals as goal

pub returns-clause-wholes : goal.returns-clause-wholes
returns-clause-wholes c = wholes_exist

pub returns-clause-messages : goal.returns-clause-messages
returns-clause-messages c = messages_exist

pub returns-clause-places : goal.returns-clause-places
returns-clause-places c = places_exist

pub returns-clause-ends : goal.returns-clause-ends
returns-clause-ends c = ends_exist
