-- There is one entry for each position.
use Rattle.made_script.proofs.MadeEntries.{made_counted}
use Rattle.made_script.proofs.laws.made_entries_are_counted.Goals as goal

pub returns : goal.returns
returns c = record { counted = made_counted }
