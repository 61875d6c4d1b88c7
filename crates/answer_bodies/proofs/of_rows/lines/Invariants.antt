-- The rows so far have their cells.
use Rattle.std.proofs.Common.{◌≡◌, take, map}
use Rattle.answer_bodies.specs.OfRows.{row_of}
use Rattle.answer_bodies.proofs.of_rows.lines.Given as goal

abbrev pub invariant-loop-row : goal.invariant-loop-row
invariant-loop-row g l = l.lines ≡ map (row_of (g.T.TermTable.terms l.table) l.variables) (take l.row-index l.rows)
