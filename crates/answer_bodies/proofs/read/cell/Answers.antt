-- The one binding of the name has a term that is refused.
use Rattle.std.proofs.Common.{subst, sym, inr}
use Rattle.ssap_items.specs.declared.body.RawCell.{RawCell}
use Rattle.ssap_items.specs.declared.body.RawTerm.{RawTerm}
use Rattle.answer_bodies.specs.WhyNot.{IsRefused}
use Rattle.answer_bodies.proofs.Rows.{named_there, any_there}
use Rattle.answer_bodies.proofs.read.cell.Goals as goal

pub returns-in-None-2 : goal.returns-in-None-2
returns-in-None-2 c =
    let one = c.in-One.ensures in
    let refused = rw c.in-None-2.is at c.in_ok-term-in-One.ensures in
    inr (any_there (λ (cell : RawCell). IsRefused cell.value.kind cell.value.text) c.args.cells.now one.0 (named_there c.args.name.now c.args.cells.now one.0 one.1)
    (subst (λ (value : RawTerm). IsRefused value.kind value.text) (sym one.2) refused))
