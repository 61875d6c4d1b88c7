-- The cells so far are those of the variables so far.
use Rattle.std.proofs.Common.{◌≡◌, take, map}
use Rattle.answer_bodies.specs.OfRows.{term_in}
use Rattle.answer_bodies.proofs.of_rows.cells.Given as goal

abbrev pub invariant-loop-var : goal.invariant-loop-var
invariant-loop-var g l = l.cells ≡ map (term_in (g.T.TermTable.terms l.table) l.row) (take l.var-index l.variables)
