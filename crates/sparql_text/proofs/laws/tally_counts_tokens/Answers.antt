-- By what is kept of the last two tokens.
use Rattle.sparql_text.proofs.Tallied.{tally_counts}
use Rattle.sparql_text.proofs.laws.tally_counts_tokens.Goals as goal

pub returns : goal.returns
returns c = tally_counts
