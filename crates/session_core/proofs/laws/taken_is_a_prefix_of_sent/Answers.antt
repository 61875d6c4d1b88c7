use Rattle.session_core.proofs.Sending.{taken_of_sent}
use Rattle.session_core.proofs.laws.taken_is_a_prefix_of_sent.Goals as goal

pub returns : goal.returns
returns c = taken_of_sent
