-- The entry that waits is the next one.
use Rattle.sib_script.proofs.Standing.{next_at}
use Rattle.sib_script.specs.contracts.reader.ScriptReader.{the_view}
use Rattle.sib_script.proofs.reader.ScriptReader.next.Goals as goal

pub returns-clause-stands : goal.returns-clause-stands
returns-clause-stands c = next_at (the_view c.self.inside) c.args.self.now c.take.result c.take.new.self c.self.view_is c.take.ensures.value c.take.ensures.after
