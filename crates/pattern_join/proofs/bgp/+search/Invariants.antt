use Rattle.std.proofs.Common.{length}
use Rattle.pattern_join.proofs.Searching.{IsSearched}
use Rattle.pattern_join.proofs.bgp.+search.Given as goal

abbrev pub decreases-search : goal.decreases-search
decreases-search g l = length l.patterns.now

abbrev pub invariant-loop-row : goal.invariant-loop-row
invariant-loop-row g l = IsSearched (g.T.TermTable.terms l.table) l.view l.pattern l.rest l.from l.fn.found.rows l.found.rows l.rows l.fn.steps l.steps

abbrev pub decreases-loop-row : goal.decreases-loop-row
decreases-loop-row g l = length l.rows
