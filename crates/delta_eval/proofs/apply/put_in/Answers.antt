use Rattle.std.proofs.Common.{[], ◌∷◌, length, length-append, ap, arith}
use Rattle.delta_eval.proofs.MovedRows.{not_yet, moved, all_moved}
use Rattle.delta_eval.proofs.apply.put_in.Goals as goal

pub add-requires : goal.add-requires
add-requires c =
    not_yet c.args.rows.now.rows c.args.added.rows c.loop-row.rows.rows c.loop-row.added.rows c.loop-row.invariant.moving c.pop.new.self.rows c.in-Some.row c.in-Some.ensures.rows
    c.in-Some.ensures.once

pub loop-row-preserved : goal.loop-row-preserved
loop-row-preserved c =
    let longer = ap length c.in-Some.ensures.rows in
    let total = length-append c.pop.new.self.rows (c.in-Some.row ∷ []) in
    record {
      moving = moved c.args.rows.now.rows c.args.added.rows c.loop-row.rows.rows c.loop-row.added.rows c.loop-row.invariant.moving c.pop.new.self.rows c.in-Some.row
          c.in-Some.ensures.rows c.in-Some.ensures.once c.add.new.self.rows c.in-Ok.ensures.ok;
      room = omega (arith, c.loop-row.invariant.room, c.in-Ok.ensures.room, longer, total);
    }

pub returns : goal.returns
returns c =
    all_moved c.args.rows.now.rows c.args.added.rows c.loop-row.rows.rows c.loop-row.added.rows c.loop-row.invariant.moving c.in_default.ensures.rows.0
