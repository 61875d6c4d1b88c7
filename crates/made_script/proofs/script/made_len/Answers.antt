-- There is one entry for each position.
use Rattle.std.proofs.Common.{sym}
use Rattle.made_script.proofs.MadeEntries.{made_counted}
use Rattle.made_script.proofs.script.made_len.Goals as goal

pub returns-clause-entries : goal.returns-clause-entries
returns-clause-entries c = sym (made_counted c.args.updates)
