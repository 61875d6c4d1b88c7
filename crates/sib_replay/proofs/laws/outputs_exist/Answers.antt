-- Each entry is taken as some events, one after another.
use Rattle.sib_replay.proofs.OutputsExist.{entries_taken, outputs_exist}
use Rattle.sib_replay.proofs.laws.outputs_exist.Goals as goal

pub returns-clause-events : goal.returns-clause-events
returns-clause-events c = entries_taken

pub returns-clause-output : goal.returns-clause-output
returns-clause-output c = outputs_exist
