-- Each row has one cell for each column.
use Rattle.std.proofs.Common.{◌≡◌, length, map, sym, subst}
use Rattle.answer_bodies.specs.OfRows.{row_of}
use Rattle.answer_bodies.specs.Writing.{AreFull}
use Rattle.answer_bodies.proofs.Backs.{all_moved}
use Rattle.answer_bodies.proofs.RowCells.{full_cells}
use Rattle.answer_bodies.proofs.answer.Answer.of_rows.Goals as goal

pub returns-clause-full : goal.returns-clause-full
returns-clause-full g c =
    let terms = g.T.TermTable.terms c.args.table.now in
    let variables = c.args.variables.now in
    let columns = c.args.columns.now in
    let rows = c.args.rows.now.rows in
    let lines = c.in_ok-ordered_lines.field-0 in
    subst (λ names. AreFull names lines) (sym c.in_ok-copied.ensures)
    (all_moved (λ row. length row ≡ length columns) (map (row_of terms variables) rows) lines c.in_ok-ordered_lines.ensures.same
    (full_cells terms variables columns c.requires.one_length rows))
