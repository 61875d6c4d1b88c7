use Rattle.std.proofs.Common.{◌∙◌, List, subst}
use Rattle.std.proofs.lemmas.List.{take_all}
use Rattle.std.proofs.lemmas.Result.{err_from_is_err_and}
use Rattle.sparql_algebra.specs.declared.mapping.Binding.{Binding}
use Rattle.sparql_algebra.specs.RowSets.{AreExactly, IsOfOr, IsOfEither}
use Rattle.sparql_algebra.proofs.Gathered.{result_why_none, either_gained, either_of}
use Rattle.sparql_algebra.proofs.union.gather_all.Goals as goal

pub returns-in_err-gather_within-clause-fault : goal.returns-in_err-gather_within-clause-fault
returns-in_err-gather_within-clause-fault c =
    let items = c.as_slice-row-items.result.now in
    let p = err_from_is_err_and c.from_residual-in_err-gather_within.result c.from_residual-in_err-gather_within.ensures.1 in
    result_why_none c.args.most (IsOfOr c.loop-row.rows.rows c.in_ok-copy.field-0) (IsOfEither c.args.rows.now.rows c.args.more.now.rows) _ c.in_err-gather_within.field-0.0 p.0 p.1 p.2
    (subst (λ (l : List (List Binding)). (r : List Binding) → IsOfOr c.loop-row.rows.rows c.in_ok-copy.field-0 r → IsOfEither c.args.rows.now.rows l r) c.as_slice-row-items.ensures.rows
    (either_of items c.loop-row.row-index c.row-item.result c.in_ok-copy.field-0 c.loop-row-test.true c.row-item.is c.in_ok-copy.ensures.equal
    c.args.rows.now.rows c.loop-row.rows.rows c.loop-row.invariant.0))
    c.in_err-gather_within.ensures.fault

pub loop-row-preserved : goal.loop-row-preserved
loop-row-preserved c = (
  either_gained c.as_slice-row-items.result.now c.loop-row.row-index c.row-item.result c.in_ok-copy.field-0 c.loop-row-test.true c.row-item.is c.in_ok-copy.ensures.equal
      c.args.rows.now.rows c.loop-row.rows.rows c.gather_within.new.self.rows c.loop-row.invariant.0 c.in_ok-gather_within.ensures.ok,
  c.in_ok-gather_within.ensures.few,
)

pub returns-clause-ok : goal.returns-clause-ok
returns-clause-ok c =
    subst (λ (l : List (List Binding)). AreExactly (IsOfEither c.args.rows.now.rows l) c.loop-row.rows.rows)
    (take_all c.loop-row.row-index c.as_slice-row-items.result.now c.loop-row-test.false ∙ c.as_slice-row-items.ensures.rows) c.loop-row.invariant.0
