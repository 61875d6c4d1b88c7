use Rattle.session_core.proofs.NumbersFollow.{no_numbers, nothing_meant}
use Rattle.session_core.proofs.facts.Facts.new.Goals as goal

pub invariant_of-result : goal.invariant_of-result
invariant_of-result c = (c.requires.limit, no_numbers _ c.requires.none c.new.ensures)

pub returns-clause-graph : goal.returns-clause-graph
returns-clause-graph c = nothing_meant _ c.new.ensures
