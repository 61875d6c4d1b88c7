-- What is taken away and put in its place, list by list.
use Rattle.answer_bodies.proofs.DifferenceLaws.{folded_in_order, folded_form, folded_full}
use Rattle.answer_bodies.proofs.laws.folded_stays_in_order.Goals as goal

pub returns-clause-in_order : goal.returns-clause-in_order
returns-clause-in_order c = folded_in_order

pub returns-clause-form : goal.returns-clause-form
returns-clause-form c = folded_form

pub returns-clause-full : goal.returns-clause-full
returns-clause-full c = folded_full
