use Rattle.std.proofs.Common.{◌∙◌, List, slice_index_or, sym, subst}
use Rattle.sparql_algebra.specs.declared.var.Var.{Var}
use Rattle.sparql_algebra.specs.Near.{BindAll, all_bound}
use Rattle.sparql_algebra.proofs.Grouping.{bind_more, both_first, both_second}
use Rattle.sparql_algebra.proofs.near.shared.Goals as goal
use Rattle.sparql_algebra.proofs.near.shared.Goals.{then-is_shared+in_ok-push, else-is_shared}

pub loop-binding-preserved : goal.loop-binding-preserved
loop-binding-preserved c =
    let left = c.args.left.now in
    let right = c.args.right.now in
    elim c.if-is_shared.branch [
      | then-is_shared+in_ok-push w ↦
          let var = (slice_index_or c.as_slice-binding-items.result.now c.loop-binding.binding-index (record { var = record { 0 = 0 }; term = record { 0 = 0 } })).var in
          subst (λ (l : List Var). BindAll l left × BindAll l right) (sym (w.columns-is ∙ w.in_ok-push.ensures.ok)) (
            bind_more c.loop-binding.columns var left c.loop-binding.invariant.0
                (both_first (all_bound left var) (all_bound right var) c.is_shared.result c.is_shared.ensures w.if-is_shared.true),
            bind_more c.loop-binding.columns var right c.loop-binding.invariant.1
                (both_second (all_bound left var) (all_bound right var) c.is_shared.result c.is_shared.ensures w.if-is_shared.true),
          )
      | else-is_shared w ↦ subst (λ (l : List Var). BindAll l left × BindAll l right) (sym w.columns-is) c.loop-binding.invariant
    ]
