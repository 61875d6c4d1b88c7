-- One column more and its cell.
use Rattle.std.proofs.Common.{◌≡◌, ◌<◌, ◌∙◌, ap, ◌++◌, sym, subst, get_or, length}
use Rattle.answer_bodies.specs.Writing.{raw_cell}
use Rattle.answer_bodies.proofs.Rows.{row_more}
use Rattle.answer_bodies.proofs.write.row.Goals as goal

pub loop-i-preserved : goal.loop-i-preserved
loop-i-preserved c =
    let name = c.index-names-i.result in
    let cell = c.cell-item.result in
    let inside = subst (λ l. c.loop-i.i < length l) c.as_slice-cell-items.ensures c.loop-i-test.true in
    let step = row_more c.args.columns.now c.args.cells.now c.loop-i.i name cell (subst (λ n. c.loop-i.i < n) c.requires inside) inside
    (subst (λ l. name ≡ get_or l c.loop-i.i name) c.as_slice-names.ensures c.index-names-i.is)
    (subst (λ l. cell ≡ get_or l c.loop-i.i cell) c.as_slice-cell-items.ensures c.cell-item.is)
    in
    c.in_ok-push_cell.ensures ∙ ap (λ l. l ++ raw_cell name cell) c.loop-i.invariant ∙ sym step
