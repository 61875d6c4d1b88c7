-- One column more and its cell.
use Rattle.std.proofs.Common.{◌≡◌, ◌<◌, ◌+◌, sym, subst, get_or, length, take}
use Rattle.std.specs.List.{AllZip}
use Rattle.answer_bodies.specs.Reading.{IsCellOf}
use Rattle.answer_bodies.proofs.Zips.{zip_more}
use Rattle.answer_bodies.proofs.read.row.Goals as goal

pub loop-name-preserved : goal.loop-name-preserved
loop-name-preserved c =
    let item = c.name-item.result in
    let i = c.loop-name.name-index in
    let items = c.args.columns.now in
    subst (λ l. AllZip (IsCellOf c.args.cells.now) (take (i + 1) items) l) (sym c.in_ok-push-in-Some.ensures.ok)
    (zip_more (IsCellOf c.args.cells.now) items c.loop-name.row i item c.in-Some.cell
    (subst (λ l. i < length l) c.as_slice-name-items.ensures c.loop-name-test.true)
    (subst (λ l. item ≡ get_or l i item) c.as_slice-name-items.ensures c.name-item.is)
    c.loop-name.invariant (rw c.in-Some.is at c.in_ok-cell.ensures))
