-- Bytes are let through byte by byte, up to the first that stops them.
use Rattle.ssap_hearing.proofs.Letting.{fronts_exist}
use Rattle.ssap_hearing.proofs.LetOnce.{fronts_once}
use Rattle.ssap_hearing.proofs.laws.links_are_heard_once.Goals as goal

pub returns-clause-exist : goal.returns-clause-exist
returns-clause-exist c = fronts_exist

pub returns-clause-once : goal.returns-clause-once
returns-clause-once c = fronts_once
