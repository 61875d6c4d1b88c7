use Rattle.std.proofs.Common.{List, subst}
use Rattle.std.specs.HashMap.{get}
use Rattle.sparql_algebra.specs.declared.mapping.Binding.{Binding}
use Rattle.sparql_algebra.specs.Near.{HasJoined}
use Rattle.sparql_algebra.specs.Solutions.{solution_eq}
use Rattle.sparql_algebra.proofs.Grouping.{grouped_more}
use Rattle.sparql_algebra.proofs.near.grouped.Goals as goal

pub loop-row-preserved : goal.loop-row-preserved
loop-row-preserved c =
    let old = get solution_eq c.loop-row.groups in
    let new = get solution_eq c.join_group.new.groups in
    grouped_more c.args.columns.now c.args.rows.now c.loop-row.row-index c.row-item.result c.loop-row-test.true c.row-item.is old new c.in_ok-key.key c.in_ok-key.ensures
    (subst (λ (r : List Binding). HasJoined old c.in_ok-key.key r new) c.in_ok-copy.ensures.equal c.in_ok-join_group.ensures) c.loop-row.invariant c.copy.ensures.rising
