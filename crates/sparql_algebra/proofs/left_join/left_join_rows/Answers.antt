use Rattle.std.proofs.Common.{◌∙◌, List, Contains, sym, subst}
use Rattle.std.specs.Option.{option_copied}
use Rattle.std.proofs.lemmas.List.{take_all}
use Rattle.std.proofs.lemmas.Result.{err_from_is_err_and}
use Rattle.sparql_algebra.specs.declared.mapping.Binding.{Binding}
use Rattle.sparql_algebra.specs.Merged.{IsLeftJoined}
use Rattle.sparql_algebra.specs.TermSolutions.{id_var}
use Rattle.sparql_algebra.specs.RowSets.{AreExactly, IsOfOrLeft, RowPasses}
use Rattle.std.specs.HashMap.{get}
use Rattle.sparql_algebra.specs.Near.{AreNear}
use Rattle.sparql_algebra.specs.Solutions.{solution_eq}
use Rattle.sparql_algebra.proofs.Grouping.{group_near}
use Rattle.sparql_algebra.proofs.Gathered.{result_why_none, item_in}
use Rattle.sparql_algebra.proofs.Merges.{left_gained, left_joined_of, near_left_of, near_left_gathered}
use Rattle.sparql_algebra.proofs.left_join.left_join_rows.Goals as goal

pub returns-in_err-gather_left-clause-fault : goal.returns-in_err-gather_left-clause-fault
returns-in_err-gather_left-clause-fault g c =
    let passing = RowPasses (g.T.TermTable.terms c.args.table.now) (option_copied c.args.condition) in
    let items = c.as_slice-one-items.result.now in
    let x = c.one-item.result in
    let now = c.loop-one.rows.rows in
    let near : AreNear c.args.right.now.rows x c.in_ok-others.others.now = subst (AreNear c.args.right.now.rows x) (sym c.in_ok-others.ensures.rows)
    (group_near c.in_ok-near.near.columns c.args.left.now.rows c.args.right.now.rows (get solution_eq c.in_ok-near.near.groups) x c.in_ok-near.ensures.grouped c.in_ok-near.ensures.left
    c.in_ok-near.ensures.right (subst (λ (l : List (List Binding)). Contains l x) c.as_slice-one-items.ensures.rows
    (item_in c.as_slice-one-items.result.now c.loop-one.one-index x c.loop-one-test.true c.one-item.is)) c.of.ensures.rising) in
    let p = err_from_is_err_and c.from_residual-in_err-gather_left.result c.from_residual-in_err-gather_left.ensures.1 in
    result_why_none c.args.most (IsOfOrLeft now x (Contains c.in_ok-others.others.now) passing) (IsLeftJoined id_var (Contains c.args.left.now.rows) (Contains c.args.right.now.rows) passing) _
    c.in_err-gather_left.field-0.0 p.0 p.1 p.2
    (λ r s.
    let there = near_left_of c.args.right.now.rows c.in_ok-others.others.now x near passing now r s in
    subst (λ (l : List (List Binding)). IsLeftJoined id_var (Contains l) (Contains c.args.right.now.rows) passing r) c.as_slice-one-items.ensures.rows
    (left_joined_of (Contains c.args.right.now.rows) passing items c.loop-one.one-index x c.loop-one-test.true c.one-item.is now c.loop-one.invariant.0 r there))
    c.in_err-gather_left.ensures.fault

pub loop-one-preserved : goal.loop-one-preserved
loop-one-preserved g c =
    let passing = RowPasses (g.T.TermTable.terms c.args.table.now) (option_copied c.args.condition) in
    let x = c.one-item.result in
    let now = c.loop-one.rows.rows in
    let new = c.gather_left.new.rows.rows in
    let near : AreNear c.args.right.now.rows x c.in_ok-others.others.now = subst (AreNear c.args.right.now.rows x) (sym c.in_ok-others.ensures.rows)
    (group_near c.in_ok-near.near.columns c.args.left.now.rows c.args.right.now.rows (get solution_eq c.in_ok-near.near.groups) x c.in_ok-near.ensures.grouped c.in_ok-near.ensures.left
    c.in_ok-near.ensures.right (subst (λ (l : List (List Binding)). Contains l x) c.as_slice-one-items.ensures.rows
    (item_in c.as_slice-one-items.result.now c.loop-one.one-index x c.loop-one-test.true c.one-item.is)) c.of.ensures.rising) in (
      left_gained (Contains c.args.right.now.rows) passing c.as_slice-one-items.result.now c.loop-one.one-index x c.loop-one-test.true c.one-item.is now new c.loop-one.invariant.0
          (near_left_gathered c.args.right.now.rows c.in_ok-others.others.now x near passing now new c.in_ok-gather_left.ensures.ok),
      c.in_ok-gather_left.ensures.few,
    )

pub returns-clause-rows : goal.returns-clause-rows
returns-clause-rows g c =
    let passing = RowPasses (g.T.TermTable.terms c.args.table.now) (option_copied c.args.condition) in
    subst (λ (l : List (List Binding)). AreExactly (IsLeftJoined id_var (Contains l) (Contains c.args.right.now.rows) passing) c.loop-one.rows.rows)
    (take_all c.loop-one.one-index c.as_slice-one-items.result.now c.loop-one-test.false ∙ c.as_slice-one-items.ensures.rows) c.loop-one.invariant.0
