-- Triples merged from the end on.
use Rattle.std.proofs.Common.{sym, ◌∙◌}
use Rattle.std.proofs.lemmas.Bool.{true≢false}
use Rattle.triple_index.specs.IdOrderLaws.{id_triple_cmp_total, id_triple_one}
use Rattle.triple_index.proofs.Merging.{merging_left, merging_right}
use Rattle.triple_index.proofs.list.merge_from_end.Goals as goal

pub loop-right-preserved-then-comes_before : goal.loop-right-preserved-then-comes_before
loop-right-preserved-then-comes_before c =
    let before = c.comes_before.ensures.0 c.if-comes_before.true in
    merging_left id_triple_cmp_total id_triple_one _ _ _ _ _ _ c.requires.inserted_ordered c.loop-right.invariant before.0 c.loop-right-test.true before.1

pub loop-right-preserved : goal.loop-right-preserved
loop-right-preserved c =
    merging_right id_triple_cmp_total id_triple_one _ _ _ _ _ _ c.requires.ordered c.requires.inserted_ordered c.requires.fresh c.loop-right.invariant c.loop-right-test.true
    (λ before. true≢false (sym (c.comes_before.ensures.1 before) ∙ c.if-comes_before.false))
