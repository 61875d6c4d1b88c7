use Rattle.sib_replay.proofs.RunLemmas.{unstarted}
use Rattle.sib_app.proofs.run.replay.Goals as goal

-- nothing was read out of memory
pub returns-in-Err-clause-ended : goal.returns-in-Err-clause-ended
returns-in-Err-clause-ended g c = unstarted c.args.name.now _
