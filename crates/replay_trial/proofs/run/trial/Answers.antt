-- A flush that fails is a fault of the sink.
use Rattle.replay_trial.proofs.TrialsEnd.{outcome_flushed, outcome_unflushed}
use Rattle.replay_trial.proofs.run.trial.Goals as goal

pub returns-in-Ok-clause-tried : goal.returns-in-Ok-clause-tried
returns-in-Ok-clause-tried g c = record {
  counts = c.try_all-output.ensures.counts;
  outcome = outcome_flushed c.args.updates _ _ _ _ _ _ c.args.steps.now c.try_all-output.new.steps c.flush.ensures.bytes c.write_output-ending.result
      (c.write_output-ending.ensures c.args.updates c.try_all-output.ensures.output) c.in-Ok.ensures.cause.kept;
}

pub returns-in-Err-clause-tried : goal.returns-in-Err-clause-tried
returns-in-Err-clause-tried g c = record {
  counts = c.try_all-output.ensures.counts;
  outcome = outcome_unflushed c.args.updates _ _ _ _ _ _ c.args.steps.now c.try_all-output.new.steps c.flush.ensures.bytes c.write_output-ending.result
      (c.write_output-ending.ensures c.args.updates c.try_all-output.ensures.output) c.in-Err.ensures.cause.failed;
}
