use Rattle.sib_replay.proofs.OrderLemmas.{messages_are_sent}
use Rattle.sib_replay.proofs.laws.messages_are_written_as_sent.Goals as goal

pub returns : goal.returns
returns c = messages_are_sent
