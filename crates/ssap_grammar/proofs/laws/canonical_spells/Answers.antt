-- Each part of the canonical spelling is read as its production, and bytes are read in one way.
use Rattle.std.proofs.Common.{[], ap}
use Rattle.ssap_items.specs.Canon.{canonical}
use Rattle.ssap_grammar.proofs.CanonicalMessages.{canonical_spells}
use Rattle.ssap_grammar.proofs.Messages.{message_both}
use Rattle.ssap_grammar.proofs.laws.canonical_spells.Goals as goal

pub returns-clause-spells : goal.returns-clause-spells
returns-clause-spells c = canonical_spells

pub returns-clause-stays : goal.returns-clause-stays
returns-clause-stays c envelope other sayable reads =
    let same = (message_both other envelope (canonical envelope) [] [] reads (canonical_spells envelope sayable)).0 in
    (same, ap canonical same)
