-- Bytes are entries, and then a part of one, nothing, or bytes that lead to none.
use Rattle.sib_script.proofs.Existing.{splits_exist, beginning_is_decided, places_exist}
use Rattle.sib_script.proofs.laws.splits_exist.Goals as goal

pub returns-clause-splits : goal.returns-clause-splits
returns-clause-splits c = splits_exist

pub returns-clause-begins : goal.returns-clause-begins
returns-clause-begins c = beginning_is_decided

pub returns-clause-places : goal.returns-clause-places
returns-clause-places c = places_exist
