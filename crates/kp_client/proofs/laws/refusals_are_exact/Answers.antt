-- Test by test.
use Rattle.kp_client.proofs.ExactRefusals.{refusals_are_exact as law}
use Rattle.kp_client.proofs.laws.refusals_are_exact.Goals as goal

pub returns : goal.returns
returns c = law
