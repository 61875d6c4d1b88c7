-- What was given is a prefix of the output.
use Rattle.std.proofs.Common.{sym, subst, IfOk}
use Rattle.replay_trial.specs.Trial.{IsTrial}
use Rattle.replay_trial.proofs.TrialsEnd.{gives_part}
use Rattle.replay_trial.proofs.output.write_output.Goals as goal

pub returns-in-Ok : goal.returns-in-Ok
returns-in-Ok g c updates is = (
  c.in-Err-write_all.ensures.cause.failed,
  gives_part updates _ _ c.deref.result.now
      (subst (IsTrial updates) (sym c.deref.ensures.value) (subst (λ r. IfOk r (λ output. IsTrial updates output.items)) c.in-Ok.is is)) c.in-Err-write_all.ensures.bytes,
)
