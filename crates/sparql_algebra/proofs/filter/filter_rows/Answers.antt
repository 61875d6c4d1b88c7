use Rattle.std.proofs.Common.{◌≡◌, ◌∙◌, List, Contains, take, ◌+◌, ap, subst, sym, refl, true≢false}
use Rattle.std.proofs.lemmas.List.{take_all}
use Rattle.std.proofs.lemmas.Result.{err_from_is_err_and}
use Rattle.sparql_algebra.specs.declared.mapping.Binding.{Binding}
use Rattle.sparql_algebra.specs.declared.expr.Truth.TheVariants.{True}
use Rattle.sparql_algebra.specs.RowSets.{AreExactly, IsOfOr, IsFiltered}
use Rattle.sparql_algebra.specs.TermSolutions.{solution_in}
use Rattle.sparql_algebra.specs.Truth.{truth}
use Rattle.sparql_algebra.proofs.Gathered.{result_why_none, with_gained, without_passed, with_of, as_result}
use Rattle.sparql_algebra.proofs.filter.filter_rows.Goals as goal
use Rattle.sparql_algebra.proofs.filter.filter_rows.Goals.{then-is_true+in_ok-copy+in_ok-gather_within, else-is_true}

pub returns-in_err-gather_within-clause-fault : goal.returns-in_err-gather_within-clause-fault
returns-in_err-gather_within-clause-fault g c =
    let terms = g.T.TermTable.terms c.args.table.now in
    let items = c.as_slice-row-items.result.now in
    let passes : truth c.args.condition.now (solution_in terms c.row-item.result) ≡ True = sym c.truth.ensures ∙ c.is_true.ensures.0 c.if-is_true.true in
    let p = err_from_is_err_and c.from_residual-in_err-gather_within.result c.from_residual-in_err-gather_within.ensures.1 in
    result_why_none c.args.most (IsOfOr c.loop-row.kept.rows c.in_ok-copy.field-0) (IsFiltered terms c.args.condition.now (Contains c.args.rows.now.rows)) _
    c.in_err-gather_within.field-0.0 p.0 p.1 p.2
    (subst (λ (l : List (List Binding)). (r : List Binding) → IsOfOr c.loop-row.kept.rows c.in_ok-copy.field-0 r → IsFiltered terms c.args.condition.now (Contains l) r)
    c.as_slice-row-items.ensures.rows
    (with_of items c.loop-row.row-index c.row-item.result c.in_ok-copy.field-0 c.loop-row-test.true c.row-item.is c.in_ok-copy.ensures.equal
    (λ r. truth c.args.condition.now (solution_in terms r) ≡ True) c.loop-row.kept.rows passes c.loop-row.invariant.0))
    c.in_err-gather_within.ensures.fault

pub loop-row-preserved : goal.loop-row-preserved
loop-row-preserved g c =
    let terms = g.T.TermTable.terms c.args.table.now in
    let items = c.as_slice-row-items.result.now in
    let next = IsFiltered terms c.args.condition.now (Contains (take (c.loop-row.row-index + 1) items)) in
    elim c.if-is_true.branch [
      | then-is_true+in_ok-copy+in_ok-gather_within w ↦
          let passes : truth c.args.condition.now (solution_in terms c.row-item.result) ≡ True = sym c.truth.ensures ∙ c.is_true.ensures.0 w.if-is_true.true in
          as_result next c.args.most c.if-is_true.kept.rows w.gather_within.new.self.rows (ap (λ l. l.rows) w.kept-is)
          (with_gained items c.loop-row.row-index c.row-item.result w.in_ok-copy.field-0 c.loop-row-test.true c.row-item.is w.in_ok-copy.ensures.equal
          (λ r. truth c.args.condition.now (solution_in terms r) ≡ True) c.loop-row.kept.rows w.gather_within.new.self.rows passes c.loop-row.invariant.0 w.in_ok-gather_within.ensures.ok)
          w.in_ok-gather_within.ensures.few
      | else-is_true w ↦ as_result next c.args.most c.if-is_true.kept.rows c.loop-row.kept.rows (ap (λ l. l.rows) w.kept-is)
          (without_passed items c.loop-row.row-index c.row-item.result c.row-item.result c.loop-row-test.true c.row-item.is refl
          (λ r. truth c.args.condition.now (solution_in terms r) ≡ True) c.loop-row.kept.rows
          (λ t. true≢false (sym (c.is_true.ensures.1 (c.truth.ensures ∙ t)) ∙ w.if-is_true.false)) c.loop-row.invariant.0)
          c.loop-row.invariant.1
    ]

pub returns-clause-rows : goal.returns-clause-rows
returns-clause-rows g c =
    subst (λ (l : List (List Binding)). AreExactly (IsFiltered (g.T.TermTable.terms c.args.table.now) c.args.condition.now (Contains l)) c.loop-row.kept.rows)
    (take_all c.loop-row.row-index c.as_slice-row-items.result.now c.loop-row-test.false ∙ c.as_slice-row-items.ensures.rows) c.loop-row.invariant.0
