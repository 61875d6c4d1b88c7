-- Lists of distinct solutions that have the same members are as long.
use Rattle.sparql_algebra.proofs.ListedSolutions.{count_exact}
use Rattle.sparql_algebra.proofs.ListedWidths.{width_exact}
use Rattle.sparql_algebra.proofs.laws.widths_are_computed.Goals as goal

pub returns-clause-count : goal.returns-clause-count
returns-clause-count c = count_exact

pub returns-clause-width : goal.returns-clause-width
returns-clause-width c = width_exact
