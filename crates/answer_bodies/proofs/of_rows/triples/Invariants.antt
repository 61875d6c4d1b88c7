-- The triples so far are those of the rows so far.
use Rattle.std.proofs.Common.{◌≡◌, take, filter_map}
use Rattle.answer_bodies.specs.OfRows.{triple_of_row}
use Rattle.answer_bodies.proofs.of_rows.triples.Given as goal

abbrev pub invariant-loop-row : goal.invariant-loop-row
invariant-loop-row g l = l.triples ≡ filter_map (triple_of_row (g.T.TermTable.terms l.table)) (take l.row-index l.rows)
