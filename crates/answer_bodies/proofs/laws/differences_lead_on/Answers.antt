-- What each side of a difference has, list by list.
use Rattle.answer_bodies.proofs.DifferenceLaws.{differences_folded, differences_fit, sides_in_order, sides_full, sides_apart}
use Rattle.answer_bodies.proofs.laws.differences_lead_on.Goals as goal

pub returns-clause-folded : goal.returns-clause-folded
returns-clause-folded c = differences_folded

pub returns-clause-fit : goal.returns-clause-fit
returns-clause-fit c = differences_fit

pub returns-clause-in_order : goal.returns-clause-in_order
returns-clause-in_order c = sides_in_order

pub returns-clause-full : goal.returns-clause-full
returns-clause-full c = sides_full

pub returns-clause-apart : goal.returns-clause-apart
returns-clause-apart c = sides_apart
