-- Of two longest fronts each is no longer than the other.
use Rattle.ssap_grammar.proofs.StreamParts.{places_once, wholes_once, streams_are_whole}
use Rattle.ssap_grammar.proofs.laws.places_are_told.Goals as goal

pub returns-clause-places : goal.returns-clause-places
returns-clause-places c = places_once

pub returns-clause-wholes : goal.returns-clause-wholes
returns-clause-wholes c = wholes_once

pub returns-clause-streams : goal.returns-clause-streams
returns-clause-streams c = streams_are_whole
