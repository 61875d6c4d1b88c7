-- The triple of one row more, if it is one.
use Rattle.std.proofs.Common.{◌≡◌, ◌++◌, ◌∙◌, Option, sym, ap, subst, append-nil}
use Rattle.m3_terms.specs.declared.triple.Triple.{Triple}
use Rattle.std.specs.Option.{option_to_list}
use Rattle.answer_bodies.specs.OfRows.{triple_of_row}
use Rattle.answer_bodies.proofs.MappedItems.{mapped_more}
use Rattle.answer_bodies.proofs.of_rows.triples.Goals.{in-Some+in_ok-push, in_default}
use Rattle.answer_bodies.proofs.of_rows.triples.Goals as goal

pub loop-row-preserved : goal.loop-row-preserved
loop-row-preserved g c =
    let f = triple_of_row (g.T.TermTable.terms c.args.table.now) in
    let old = c.loop-row.triples in
    let push = λ (found : Option Triple). old ++ option_to_list found in
    let told = subst (λ row. c.in_ok-triple.field-0 ≡ f row) c.row-item.is c.in_ok-triple.ensures in
    let more = mapped_more f c.args.rows.now c.loop-row.row-index c.row-item.result old c.match-branch-2.triples c.loop-row-test.true c.loop-row.invariant in
    elim c.match-branch-2.branch [
      | in-Some+in_ok-push w ↦ more (w.triples-is ∙ w.in_ok-push.ensures.ok ∙ ap push (sym w.in-Some.is) ∙ ap push told)
      | in_default w ↦ more (w.triples-is ∙ sym (append-nil old) ∙ ap push (sym w.in_default.is) ∙ ap push told)
    ]
