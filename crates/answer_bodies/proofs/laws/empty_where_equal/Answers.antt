-- Two lists in order that lack nothing of each other are one.
use Rattle.answer_bodies.proofs.DifferenceLaws.{equals_differ, empty_exactly}
use Rattle.answer_bodies.proofs.laws.empty_where_equal.Goals as goal

pub returns-clause-equals : goal.returns-clause-equals
returns-clause-equals c = equals_differ

pub returns-clause-exactly : goal.returns-clause-exactly
returns-clause-exactly c = empty_exactly
