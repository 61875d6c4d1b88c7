-- The table in the code is the grammar's.
use Rattle.ssap_grammar.specs.Text.{references}
use Rattle.ssap_text.proofs.marks.reference.Goals as goal

pub returns-clause-found : goal.returns-clause-found
unfolding references
returns-clause-found c = c.one_of.ensures.found

pub returns-clause-none : goal.returns-clause-none
unfolding references
returns-clause-none c = c.one_of.ensures.none
