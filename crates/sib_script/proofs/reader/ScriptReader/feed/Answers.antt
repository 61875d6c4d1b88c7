-- What a call does tells what the reader stands for after it.
use Rattle.sib_script.proofs.Standing.{fed_stand}
use Rattle.sib_script.proofs.reader.ScriptReader.feed.Goals as goal

pub returns-clause-stands : goal.returns-clause-stands
returns-clause-stands c = fed_stand c.args.self.now c.take.new.self c.args.bytes.now c.take.result c.take.ensures.ok c.take.ensures.refused
