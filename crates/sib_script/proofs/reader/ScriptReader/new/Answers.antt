-- A new reader stands for no bytes and no entry.
use Rattle.sib_script.proofs.Standing.{fresh_stands}
use Rattle.sib_script.proofs.reader.ScriptReader.new.Goals as goal

pub returns-clause-stands : goal.returns-clause-stands
returns-clause-stands c = fresh_stands
