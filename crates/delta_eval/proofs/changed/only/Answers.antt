use Rattle.std.proofs.Common.{◌∙◌, ◌+◌, List, Contains, take, sym, subst, true≢false}
use Rattle.std.proofs.lemmas.List.{take_all}
use Rattle.std.specs.List.{IsDistinct}
use Rattle.sparql_algebra.specs.declared.mapping.Binding.{Binding}
use Rattle.sparql_algebra.specs.RowSets.{AreExactly}
use Rattle.sparql_algebra.specs.Solutions.{RowList, solution_eq}
use Rattle.delta_eval.specs.Changed.{IsOfOnly}
use Rattle.delta_eval.proofs.MovedRows.{not_kept, one_more, one_passed}
use Rattle.delta_eval.proofs.changed.only.Goals as goal
use Rattle.delta_eval.proofs.changed.only.Goals.{then-not-contains+in_ok-copy+in_ok-add, else-not-contains}

pub add-requires : goal.add-requires
add-requires c =
    let once = subst (IsDistinct solution_eq) (sym c.as_slice-row-items.ensures.rows) c.as_slice-row-items.ensures.distinct in
    subst (λ (r : List Binding). Contains c.loop-row.rest.rows r → ⊥) (sym c.in_ok-copy.ensures.equal)
    (not_kept c.as_slice-row-items.result.now c.loop-row.row-index c.row-item.result once c.loop-row-test.true c.row-item.is c.args.others.now.rows c.loop-row.rest.rows c.loop-row.invariant)

pub loop-row-preserved : goal.loop-row-preserved
loop-row-preserved c =
    let items = c.as_slice-row-items.result.now in
    let i = c.loop-row.row-index in
    let row = c.row-item.result in
    let others = c.args.others.now.rows in
    let rest = c.loop-row.rest.rows in
    let once = subst (IsDistinct solution_eq) (sym c.as_slice-row-items.ensures.rows) c.as_slice-row-items.ensures.distinct in
    elim c.if-not-contains.branch [
      | then-not-contains+in_ok-copy+in_ok-add w ↦
          let absent : Contains others row → ⊥ = λ there. true≢false (sym (c.contains.ensures.1 there) ∙ w.if-not-contains.true) in
          subst (λ (l : RowList). AreExactly (IsOfOnly (take (i + 1) items) others) l.rows) (sym w.rest-is)
          (subst (AreExactly (IsOfOnly (take (i + 1) items) others)) (sym w.in_ok-add.ensures.ok)
          (one_more items i row once c.loop-row-test.true c.row-item.is others rest w.in_ok-copy.field-0 w.in_ok-copy.ensures.equal absent c.loop-row.invariant))
      | else-not-contains w ↦
          subst (λ (l : RowList). AreExactly (IsOfOnly (take (i + 1) items) others) l.rows) (sym w.rest-is)
          (one_passed items i row once c.loop-row-test.true c.row-item.is others rest (c.contains.ensures.0 w.if-not-contains.false) c.loop-row.invariant)
    ]

pub returns : goal.returns
returns c =
    subst (λ (l : List (List Binding)). AreExactly (IsOfOnly l c.args.others.now.rows) c.loop-row.rest.rows)
    (take_all c.loop-row.row-index c.as_slice-row-items.result.now c.loop-row-test.false ∙ c.as_slice-row-items.ensures.rows) c.loop-row.invariant
