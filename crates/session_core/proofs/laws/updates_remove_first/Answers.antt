use Rattle.session_core.proofs.Fitting.{updates_are_exact, updates_keep_order}
use Rattle.session_core.proofs.laws.updates_remove_first.Goals as goal

pub returns : goal.returns
returns c = record { exact = updates_are_exact; order = updates_keep_order }
