use Rattle.std.proofs.Common.{◌∙◌, List, Contains, sym, subst}
use Rattle.std.proofs.lemmas.List.{take_all}
use Rattle.std.proofs.lemmas.Result.{err_from_is_err_and}
use Rattle.sparql_algebra.specs.declared.mapping.Binding.{Binding}
use Rattle.sparql_algebra.specs.Merged.{IsJoined}
use Rattle.sparql_algebra.specs.TermSolutions.{id_var}
use Rattle.sparql_algebra.specs.RowSets.{AreExactly, IsOfOrPassing}
use Rattle.std.specs.HashMap.{get}
use Rattle.sparql_algebra.specs.Near.{AreNear}
use Rattle.sparql_algebra.specs.Solutions.{solution_eq}
use Rattle.sparql_algebra.proofs.Grouping.{group_near}
use Rattle.sparql_algebra.proofs.Gathered.{result_why_none, item_in}
use Rattle.sparql_algebra.proofs.Merges.{joined_gained, joined_of, near_of, near_gathered}
use Rattle.sparql_algebra.proofs.join.join_rows.Goals as goal

pub returns-in_err-gather_passing-clause-fault : goal.returns-in_err-gather_passing-clause-fault
returns-in_err-gather_passing-clause-fault c =
    let items = c.as_slice-one-items.result.now in
    let x = c.one-item.result in
    let now = c.loop-one.rows.rows in
    let near : AreNear c.args.right.now.rows x c.in_ok-others.others.now = subst (AreNear c.args.right.now.rows x) (sym c.in_ok-others.ensures.rows)
    (group_near c.in_ok-near.near.columns c.args.left.now.rows c.args.right.now.rows (get solution_eq c.in_ok-near.near.groups) x c.in_ok-near.ensures.grouped c.in_ok-near.ensures.left
    c.in_ok-near.ensures.right (subst (λ (l : List (List Binding)). Contains l x) c.as_slice-one-items.ensures.rows
    (item_in c.as_slice-one-items.result.now c.loop-one.one-index x c.loop-one-test.true c.one-item.is)) c.of.ensures.rising) in
    let p = err_from_is_err_and c.from_residual-in_err-gather_passing.result c.from_residual-in_err-gather_passing.ensures.1 in
    result_why_none c.args.most (IsOfOrPassing now x (Contains c.in_ok-others.others.now) (λ q. Unit {0})) (IsJoined id_var (Contains c.args.left.now.rows) (Contains c.args.right.now.rows)) _
    c.in_err-gather_passing.field-0.0 p.0 p.1 p.2
    (λ r s.
    let there = near_of c.args.right.now.rows c.in_ok-others.others.now x near (λ q. Unit {0}) now r s in
    subst (λ (l : List (List Binding)). IsJoined id_var (Contains l) (Contains c.args.right.now.rows) r) c.as_slice-one-items.ensures.rows
    (joined_of (Contains c.args.right.now.rows) items c.loop-one.one-index x c.loop-one-test.true c.one-item.is now c.loop-one.invariant.0 r there))
    c.in_err-gather_passing.ensures.fault

pub loop-one-preserved : goal.loop-one-preserved
loop-one-preserved c =
    let x = c.one-item.result in
    let now = c.loop-one.rows.rows in
    let new = c.gather_passing.new.rows.rows in
    let near : AreNear c.args.right.now.rows x c.in_ok-others.others.now = subst (AreNear c.args.right.now.rows x) (sym c.in_ok-others.ensures.rows)
    (group_near c.in_ok-near.near.columns c.args.left.now.rows c.args.right.now.rows (get solution_eq c.in_ok-near.near.groups) x c.in_ok-near.ensures.grouped c.in_ok-near.ensures.left
    c.in_ok-near.ensures.right (subst (λ (l : List (List Binding)). Contains l x) c.as_slice-one-items.ensures.rows
    (item_in c.as_slice-one-items.result.now c.loop-one.one-index x c.loop-one-test.true c.one-item.is)) c.of.ensures.rising) in (
      joined_gained (Contains c.args.right.now.rows) c.as_slice-one-items.result.now c.loop-one.one-index x c.loop-one-test.true c.one-item.is now new c.loop-one.invariant.0
          (near_gathered c.args.right.now.rows c.in_ok-others.others.now x near (λ q. Unit {0}) now new c.in_ok-gather_passing.ensures.ok),
      c.in_ok-gather_passing.ensures.few,
    )

pub returns-clause-rows : goal.returns-clause-rows
returns-clause-rows c =
    subst (λ (l : List (List Binding)). AreExactly (IsJoined id_var (Contains l) (Contains c.args.right.now.rows)) c.loop-one.rows.rows)
    (take_all c.loop-one.one-index c.as_slice-one-items.result.now c.loop-one-test.false ∙ c.as_slice-one-items.ensures.rows) c.loop-one.invariant.0
