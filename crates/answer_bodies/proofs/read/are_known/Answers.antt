-- One binding more that names a column.
use Rattle.std.proofs.Common.{◌≡◌, ◌<◌, ◌∙◌, true, sym, subst, get_or, length}
use Rattle.std.specs.List.{list_any}
use Rattle.m3_terms.specs.Order.{text_eq}
use Rattle.answer_bodies.specs.Reading.{IsKnown}
use Rattle.answer_bodies.proofs.Zips.{all_more}
use Rattle.answer_bodies.proofs.read.are_known.Goals as goal

pub loop-cell-preserved : goal.loop-cell-preserved
loop-cell-preserved c =
    let cell = c.cell-item.result in
    let i = c.loop-cell.cell-index in
    all_more (IsKnown c.args.columns.now) c.args.cells.now i cell
    (subst (λ l. i < length l) c.as_slice-cell-items.ensures c.loop-cell-test.true)
    (subst (λ l. cell ≡ get_or l i cell) c.as_slice-cell-items.ensures c.cell-item.is)
    c.loop-cell.invariant
    (subst (λ l. list_any (λ name. text_eq name cell.name) l ≡ true) c.as_slice.ensures (sym c.contains.ensures.value ∙ c.if-not-contains.false))
