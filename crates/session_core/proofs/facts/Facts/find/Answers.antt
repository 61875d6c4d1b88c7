use Rattle.session_core.proofs.facts.Facts.find.Goals as goal

pub answer-requires-clause-ordered : goal.answer-requires-clause-ordered
answer-requires-clause-ordered g c = c.in-Ok.ensures.matching.ordered

pub answer-requires-clause-there : goal.answer-requires-clause-there
answer-requires-clause-there g c = c.in-Ok.ensures.matching.there
