-- Solutions are merged position by position, pattern by pattern and side by side.
use Rattle.sparql_algebra.proofs.ListedPatterns.{patterns_exact}
use Rattle.sparql_algebra.proofs.ListedSolutions.{solutions_exact}
use Rattle.sparql_algebra.proofs.laws.solutions_are_listed.Goals as goal

pub returns-clause-patterns : goal.returns-clause-patterns
returns-clause-patterns c = patterns_exact

pub returns-clause-all : goal.returns-clause-all
returns-clause-all c = solutions_exact
