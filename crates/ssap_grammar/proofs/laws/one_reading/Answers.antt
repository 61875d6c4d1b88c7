-- Each production is told from its bytes.
use Rattle.ssap_grammar.proofs.Messages.{message_both, none_begins}
use Rattle.ssap_grammar.proofs.laws.one_reading.Goals as goal

pub returns-clause-told : goal.returns-clause-told
returns-clause-told c bytes rest left envelope other x y = message_both envelope other bytes rest left x y

pub returns-clause-once : goal.returns-clause-once
returns-clause-once c bytes envelope other x y = (message_both envelope other bytes _ _ x y).0

pub returns-clause-begins : goal.returns-clause-begins
returns-clause-begins c bytes more envelope other x y = none_begins bytes more envelope other x y
