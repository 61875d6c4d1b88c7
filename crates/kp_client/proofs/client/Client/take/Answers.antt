-- What is said has its cause.
use Rattle.kp_client.proofs.ToldCauses.{stray_only, refused_only, is_refused}
use Rattle.kp_client.proofs.client.Client.take.Goals as goal

pub returns-clause-unexpected : goal.returns-clause-unexpected
returns-clause-unexpected c = λ awaited is want got e. stray_only _ _ awaited _ c.args.incoming want got (c.take_in.ensures awaited is) e

pub returns-clause-refused : goal.returns-clause-refused
returns-clause-refused c = λ awaited is stated. (
  λ e. refused_only _ _ awaited _ c.args.incoming stated (c.take_in.ensures awaited is) e,
  λ so. is_refused _ _ awaited _ c.args.incoming stated (c.take_in.ensures awaited is) so,
)
