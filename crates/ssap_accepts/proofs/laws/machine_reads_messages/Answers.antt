-- Each symbol takes just what its production reads.
use Rattle.ssap_accepts.proofs.Messages.{spelled, accepted}
use Rattle.ssap_accepts.proofs.laws.machine_reads_messages.Goals as goal

pub returns-clause-spelled : goal.returns-clause-spelled
returns-clause-spelled c = spelled

pub returns-clause-accepted : goal.returns-clause-accepted
returns-clause-accepted c = accepted
