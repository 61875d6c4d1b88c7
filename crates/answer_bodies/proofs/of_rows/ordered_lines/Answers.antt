-- Distinct rows have distinct cells.
use Rattle.std.proofs.Common.{map, sym, subst}
use Rattle.std.specs.List.{IsDistinct}
use Rattle.std.specs.Ordering.{eq_by_cmp}
use Rattle.m3_terms.specs.Order.{row_cmp}
use Rattle.answer_bodies.specs.OfRows.{row_of}
use Rattle.answer_bodies.proofs.RowCells.{distinct_cells}
use Rattle.answer_bodies.proofs.of_rows.ordered_lines.Goals as goal

pub sorted-requires : goal.sorted-requires
sorted-requires g c =
    let terms = g.T.TermTable.terms c.args.table.now in
    let variables = c.args.variables.now in
    let slice = c.as_slice.ensures in
    subst (IsDistinct (eq_by_cmp row_cmp)) (sym c.in_ok-unordered.ensures)
    (subst (λ rows. IsDistinct (eq_by_cmp row_cmp) (map (row_of terms variables) rows)) (sym slice.rows)
    (distinct_cells terms variables c.names_once.ensures c.args.rows.now.rows slice.rising c.requires.bound c.requires.named slice.distinct))
