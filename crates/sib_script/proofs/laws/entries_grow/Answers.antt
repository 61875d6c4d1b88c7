-- Entries are put together and taken apart at their end.
use Rattle.sib_script.proofs.ScriptLaws.{entries_pop, entries_push, script_spelling-push}
use Rattle.sib_script.proofs.laws.entries_grow.Goals as goal

pub returns : goal.returns
returns c es e = (entries_pop es e, entries_push es e, script_spelling-push es e)
