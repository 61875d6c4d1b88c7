use Rattle.std.proofs.Common.{◌⊎◌, Contains, length}
use Rattle.std.specs.Option.{IsSome}
use Rattle.triple_index.specs.declared.triple.IdTriple.{IdTriple}
use Rattle.pattern_join.specs.Meaning.{triple_in}
use Rattle.tests_parts.proofs.joins.are_meant.Given as goal

abbrev pub invariant-loop-row : goal.invariant-loop-row
invariant-loop-row g l = (t : IdTriple) → Contains l.view t → Contains l.rows t ⊎ IsSome (triple_in (g.T.TermTable.terms l.table) t)

abbrev pub decreases-loop-row : goal.decreases-loop-row
decreases-loop-row g l = length l.rows
