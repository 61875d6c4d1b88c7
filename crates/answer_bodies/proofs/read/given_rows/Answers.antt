-- One row more.
use Rattle.std.proofs.Common.{◌≡◌, ◌<◌, ◌+◌, sym, subst, get_or, length, take}
use Rattle.std.specs.List.{AllZip}
use Rattle.answer_bodies.specs.Reading.{IsRowOf}
use Rattle.answer_bodies.proofs.Zips.{zip_more}
use Rattle.answer_bodies.proofs.read.given_rows.Goals as goal

pub loop-cells-preserved : goal.loop-cells-preserved
loop-cells-preserved c =
    let item = c.cells-item.result in
    let i = c.loop-cells.cells-index in
    let items = c.args.raws.now in
    subst (λ l. AllZip (IsRowOf c.args.columns.now) (take (i + 1) items) l) (sym c.in_ok-push-in-Some.ensures.ok)
    (zip_more (IsRowOf c.args.columns.now) items c.loop-cells.given i item c.in-Some.row
    (subst (λ l. i < length l) c.as_slice-cells-items.ensures c.loop-cells-test.true)
    (subst (λ l. item ≡ get_or l i item) c.as_slice-cells-items.ensures c.cells-item.is)
    c.loop-cells.invariant (rw c.in-Some.is at c.in_ok-row.ensures))
