-- Of a script nothing is left, and bytes are split in one way.
use Rattle.sib_script.proofs.ScriptLaws.{splits_script, inside_no_script}
use Rattle.sib_script.proofs.laws.scripts_are_whole.Goals as goal

pub returns-clause-whole : goal.returns-clause-whole
returns-clause-whole c = splits_script

pub returns-clause-rest : goal.returns-clause-rest
returns-clause-rest c = inside_no_script
