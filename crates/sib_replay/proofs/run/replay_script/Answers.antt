use Rattle.std.proofs.Common.{refl, inl, inr}
use Rattle.sib_replay.proofs.TurnLemmas.{ended_flushed}
use Rattle.sib_replay.proofs.RunLemmas.{ended_unflushed}
use Rattle.sib_replay.proofs.run.replay_script.Goals as goal

-- a flush that hands all on leaves the ending as it is
pub returns-in-Ok-clause-ended : goal.returns-in-Ok-clause-ended
returns-in-Ok-clause-ended g c =
    ended_flushed c.args.name _ _ _ _ c.flush.ensures.bytes c.in-Ok.ensures.cause.kept c.read_all-ending.result c.read_all-ending.ensures

pub returns-in-Ok-clause-handed : goal.returns-in-Ok-clause-handed
returns-in-Ok-clause-handed g c = inr c.in-Ok.ensures.handed

-- a flush that fails is a fault of the sink
pub returns-in-Err-clause-ended : goal.returns-in-Err-clause-ended
returns-in-Err-clause-ended g c =
    ended_unflushed c.args.name _ _ _ _ c.read_all-ending.result c.read_all-ending.ensures c.flush.ensures.bytes c.in-Err.ensures.cause.failed

pub returns-in-Err-clause-handed : goal.returns-in-Err-clause-handed
returns-in-Err-clause-handed g c = inl refl
