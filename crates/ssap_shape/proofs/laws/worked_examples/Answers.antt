-- Each example by its lemma.
use Rattle.ssap_shape.proofs.ExampleShapes.{joins, removes, incompletes, unknowns, empties, encodings, nodeless, twelves, asks_to_join, asks_in_sparql, tells_refusal}
use Rattle.ssap_shape.proofs.laws.worked_examples.Goals as goal

pub returns-clause-joins : goal.returns-clause-joins
returns-clause-joins c = joins

pub returns-clause-removes : goal.returns-clause-removes
returns-clause-removes c = removes

pub returns-clause-incompletes : goal.returns-clause-incompletes
returns-clause-incompletes c = incompletes

pub returns-clause-unknowns : goal.returns-clause-unknowns
returns-clause-unknowns c = unknowns

pub returns-clause-empties : goal.returns-clause-empties
returns-clause-empties c = empties

pub returns-clause-encodings : goal.returns-clause-encodings
returns-clause-encodings c = encodings

pub returns-clause-nodeless : goal.returns-clause-nodeless
returns-clause-nodeless c = nodeless

pub returns-clause-twelves : goal.returns-clause-twelves
returns-clause-twelves c = twelves

pub returns-clause-asks_to_join : goal.returns-clause-asks_to_join
returns-clause-asks_to_join c = asks_to_join

pub returns-clause-asks_in_sparql : goal.returns-clause-asks_in_sparql
returns-clause-asks_in_sparql c = asks_in_sparql

pub returns-clause-tells_refusal : goal.returns-clause-tells_refusal
returns-clause-tells_refusal c = tells_refusal
