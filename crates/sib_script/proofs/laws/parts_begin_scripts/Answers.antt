-- A part of an entry goes on to the whole one, and a byte that goes on with none ends every script.
use Rattle.sib_script.proofs.ScriptLaws.{splits_reading, dead_end, stuck_splits}
use Rattle.sib_script.proofs.laws.parts_begin_scripts.Goals as goal

pub returns-clause-parts : goal.returns-clause-parts
returns-clause-parts c = splits_reading

pub returns-clause-dead_ends : goal.returns-clause-dead_ends
returns-clause-dead_ends c b es unread byte more a h p n =
    (dead_end b es unread byte more a h p n, stuck_splits b es unread byte more a h p n)
