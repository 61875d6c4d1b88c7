use Rattle.std.proofs.Common.{List, subst}
use Rattle.std.proofs.lemmas.Result.{err_from_is_err_and}
use Rattle.sparql_algebra.specs.declared.mapping.Binding.{Binding}
use Rattle.sparql_algebra.specs.RowSets.{AreExactly, IsOfEither}
use Rattle.sparql_algebra.proofs.Gathered.{result_why_none, both_gathered, either_from_first, either_from_second}
use Rattle.sparql_algebra.proofs.union.union_rows.Goals as goal

pub returns-in_err-gather_all-clause-fault : goal.returns-in_err-gather_all-clause-fault
returns-in_err-gather_all-clause-fault c =
    let p = err_from_is_err_and c.from_residual.result c.from_residual.ensures.1 in
    result_why_none c.args.most (IsOfEither c.new-rows.result.rows c.args.left.now.rows) (IsOfEither c.args.left.now.rows c.args.right.now.rows) _ c.in_err-gather_all.field-0.0 p.0 p.1 p.2
    (λ r s. either_from_first c.args.left.now.rows c.args.right.now.rows r (subst (λ (l : List (List Binding)). IsOfEither l c.args.left.now.rows r) c.new-rows.ensures s))
    c.in_err-gather_all.ensures.fault

pub returns-in_err-gather_all-2-clause-fault : goal.returns-in_err-gather_all-2-clause-fault
returns-in_err-gather_all-2-clause-fault c =
    let p = err_from_is_err_and c.from_residual-in_err-gather_all-2.result c.from_residual-in_err-gather_all-2.ensures.1 in
    result_why_none c.args.most (IsOfEither c.gather_all.new.rows.rows c.args.right.now.rows) (IsOfEither c.args.left.now.rows c.args.right.now.rows) _ c.in_err-gather_all-2.field-0.0 p.0 p.1 p.2
    (either_from_second c.args.left.now.rows c.args.right.now.rows c.gather_all.new.rows.rows
    (subst (λ (l : List (List Binding)). AreExactly (IsOfEither l c.args.left.now.rows) c.gather_all.new.rows.rows) c.new-rows.ensures c.in_ok-gather_all.ensures.ok))
    c.in_err-gather_all-2.ensures.fault

pub returns-clause-rows : goal.returns-clause-rows
returns-clause-rows c = both_gathered c.args.left.now.rows c.args.right.now.rows c.gather_all.new.rows.rows c.gather_all-2.new.rows.rows
    (subst (λ (l : List (List Binding)). AreExactly (IsOfEither l c.args.left.now.rows) c.gather_all.new.rows.rows) c.new-rows.ensures c.in_ok-gather_all.ensures.ok)
    c.in_ok-gather_all-2.ensures.ok
