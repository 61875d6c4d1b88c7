use Rattle.session_core.proofs.ChangesAreSent.{changes_are_sent}
use Rattle.session_core.proofs.laws.changes_are_sent.Goals as goal

pub returns : goal.returns
returns c = changes_are_sent
