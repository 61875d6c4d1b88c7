-- Each request is short, so each entry may stand in a script.
use Rattle.made_script.proofs.MessageLengths.{entry_allowed}
use Rattle.made_script.proofs.MadeEntries.{made_is_script}
use Rattle.made_script.proofs.laws.made_scripts_are_scripts.Goals as goal

pub returns-clause-allowed : goal.returns-clause-allowed
returns-clause-allowed c = entry_allowed

pub returns-clause-script : goal.returns-clause-script
returns-clause-script c = made_is_script
