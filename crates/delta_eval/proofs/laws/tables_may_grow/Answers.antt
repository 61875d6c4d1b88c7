use Rattle.delta_eval.proofs.StandingLaws.{still_stands}
use Rattle.delta_eval.proofs.laws.tables_may_grow.Goals as goal

pub returns : goal.returns
returns c = still_stands
