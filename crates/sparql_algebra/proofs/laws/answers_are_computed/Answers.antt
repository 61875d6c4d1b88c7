-- Rows in order that have the same members are one list.
use Rattle.sparql_algebra.proofs.ListedAnswers.{answer_exact}
use Rattle.sparql_algebra.proofs.laws.answers_are_computed.Goals as goal

pub returns : goal.returns
returns c = answer_exact
