-- Each example by its lemma.
use Rattle.answer_bodies.proofs.ExampleReadings.{one_triple, no_double, no_blank, unbound_cell, no_unknown}
use Rattle.answer_bodies.proofs.laws.worked_examples.Goals as goal

pub returns-clause-one_triple : goal.returns-clause-one_triple
returns-clause-one_triple c = one_triple

pub returns-clause-no_double : goal.returns-clause-no_double
returns-clause-no_double c = no_double

pub returns-clause-no_blank : goal.returns-clause-no_blank
returns-clause-no_blank c = no_blank

pub returns-clause-unbound_cell : goal.returns-clause-unbound_cell
returns-clause-unbound_cell c = unbound_cell

pub returns-clause-no_unknown : goal.returns-clause-no_unknown
returns-clause-no_unknown c = no_unknown
