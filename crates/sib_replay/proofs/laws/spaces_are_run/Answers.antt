use Rattle.sib_replay.proofs.EventLemmas.{spaces_run}
use Rattle.sib_replay.proofs.laws.spaces_are_run.Goals as goal

pub returns : goal.returns
returns c = spaces_run
