use Rattle.ssap_encode.proofs.GatherLemmas.{writes_all, cause_of_all}
use Rattle.ssap_encode.proofs.gather.Gather.put_all.Goals as goal

-- what was held at the end was given last
pub returns-clause-written : goal.returns-clause-written
returns-clause-written g c = writes_all _ _ _ _ _ _ _ _ c.give.result c.requires c.in_ok-put.ensures.1 c.give.ensures.bytes

-- and its fault is the first
pub returns-clause-cause : goal.returns-clause-cause
returns-clause-cause g c = cause_of_all _ _ _ _ _ _ _ _ c.give.result c.in_ok-put.ensures.1 c.give.ensures.cause
