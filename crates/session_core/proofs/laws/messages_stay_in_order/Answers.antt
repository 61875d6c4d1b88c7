use Rattle.session_core.proofs.Sending.{sent_taken_waiting}
use Rattle.session_core.proofs.laws.messages_stay_in_order.Goals as goal

pub returns : goal.returns
returns c = sent_taken_waiting
