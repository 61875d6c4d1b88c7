-- No entry's spelling begins another's, so the entries are read in one way.
use Rattle.sib_script.proofs.ScriptLaws.{entry_unique, splits_unique, splits_front}
use Rattle.sib_script.proofs.Places.{place_once}
use Rattle.sib_script.proofs.laws.one_reading.Goals as goal

pub returns-clause-entries : goal.returns-clause-entries
returns-clause-entries c = entry_unique

pub returns-clause-once : goal.returns-clause-once
returns-clause-once c = splits_unique

pub returns-clause-grow : goal.returns-clause-grow
returns-clause-grow c = splits_front

pub returns-clause-place : goal.returns-clause-place
returns-clause-place c = place_once
