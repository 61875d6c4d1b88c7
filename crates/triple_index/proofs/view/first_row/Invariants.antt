use Rattle.std.proofs.Common.{◌≡◌, drop}
use Rattle.triple_index.specs.Rows.{rows_of}
use Rattle.triple_index.proofs.view.first_row.Given as goal

abbrev pub invariant-loop-at : goal.invariant-loop-at
invariant-loop-at l = rows_of l.mask l.triples l.removed ≡ rows_of l.mask (drop l.at l.triples) l.removed
