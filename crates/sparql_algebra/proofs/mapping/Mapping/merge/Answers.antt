-- The next binding is put among those merged before, or it is there.
use Rattle.std.proofs.Common.{◌∙◌}
use Rattle.sparql_algebra.proofs.Agreeing.{merge_puts, merge_stays}
use Rattle.sparql_algebra.proofs.mapping.Mapping.merge.Goals as goal
use Rattle.sparql_algebra.proofs.mapping.Mapping.merge.Goals.{then-is_none+in_ok-put, else-is_none}

pub loop-binding-preserved : goal.loop-binding-preserved
loop-binding-preserved c = elim c.if-is_none.branch [
  | then-is_none+in_ok-put w ↦ merge_puts c.as_slice-binding-items.result.now c.args.other.now c.loop-binding.binding-index _ c.loop-binding.merged _
      c.loop-binding-test.true c.loop-binding.invariant (w.merged-is ∙ w.in_ok-put.ensures.ok)
  | else-is_none w ↦ w.merged-is ∙ merge_stays c.args.self.now c.as_slice-binding-items.result.now c.args.other.now c.loop-binding.binding-index _ c.loop-binding.merged
      c.get.result c.is_none.result c.as_slice-binding-items.ensures.bindings c.as_slice-binding-items.ensures.rising c.copy.ensures.rising c.requires
      c.loop-binding-test.true c.loop-binding.invariant c.get.ensures c.is_none.ensures w.if-is_none.false
]
