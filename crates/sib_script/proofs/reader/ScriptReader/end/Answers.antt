-- The end is what it is for the bytes.
use Rattle.sib_script.proofs.Standing.{ends_stand}
use Rattle.sib_script.proofs.reader.ScriptReader.end.Goals as goal

pub returns-clause-stands : goal.returns-clause-stands
returns-clause-stands c = ends_stand c.args.self.now c.finish.new.self c.finish.result c.finish.ensures
