-- Each production reads only what is sayable, and a sayable envelope is written canonically.
use Rattle.std.proofs.Common.{[]}
use Rattle.ssap_grammar.proofs.CanonicalMessages.{canonical_spells}
use Rattle.ssap_grammar.proofs.SpelledIsSayable.{message_says}
use Rattle.ssap_grammar.proofs.laws.spellings_are_sayable.Goals as goal

pub returns-clause-sayable : goal.returns-clause-sayable
returns-clause-sayable c bytes envelope spells = message_says envelope bytes [] spells

pub returns-clause-canonical : goal.returns-clause-canonical
returns-clause-canonical c bytes envelope spells = canonical_spells envelope (message_says envelope bytes [] spells)
