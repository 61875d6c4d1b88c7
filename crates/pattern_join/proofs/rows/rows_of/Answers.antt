use Rattle.pattern_join.proofs.RowsOnce.{row_absent}
use Rattle.pattern_join.proofs.rows.rows_of.Goals as goal

pub add-requires : goal.add-requires
add-requires c =
    row_absent c.args.triples.now c.as_slice-triple-items.result.now c.loop-triple.rows.rows c.loop-triple.triple-index _ c.as_slice-triple-items.ensures c.requires
    c.loop-triple-test.true c.loop-triple.invariant
