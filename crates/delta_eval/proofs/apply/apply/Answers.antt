use Rattle.delta_eval.proofs.MovedRows.{both_done}
use Rattle.delta_eval.proofs.apply.apply.Goals as goal

pub put_in-requires-clause-new : goal.put_in-requires-clause-new
put_in-requires-clause-new c row come there = c.requires.change.added_new row come ((c.take_out.ensures.rows row).0 there).0

pub returns : goal.returns
returns c = both_done c.args.rows.now.rows c.args.change.added.rows c.args.change.obsolete.rows c.take_out.new.rows.rows c.put_in.new.rows.rows c.take_out.ensures.rows c.put_in.ensures
