-- Written entries are a script of their own, and the entries of a prefix come first among them.
use Rattle.sib_script.proofs.WrittenLaws.{script_longer, prefix_begins, next_is, all_are, script_of, entries_of}
use Rattle.sib_script.proofs.laws.written_is_read.Goals as goal

pub returns-clause-script : goal.returns-clause-script
returns-clause-script c entries allowed = (script_of entries allowed, entries_of entries allowed)

pub returns-clause-longer : goal.returns-clause-longer
returns-clause-longer c = script_longer

pub returns-clause-begins : goal.returns-clause-begins
returns-clause-begins c = prefix_begins

pub returns-clause-next : goal.returns-clause-next
returns-clause-next c = next_is

pub returns-clause-all : goal.returns-clause-all
returns-clause-all c = all_are
