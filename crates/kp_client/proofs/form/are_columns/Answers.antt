-- Columns are compared name by name.
use Rattle.std.proofs.Common.{sym, ◌∙◌}
use Rattle.kp_client.proofs.SameColumns.{same_columns}
use Rattle.kp_client.proofs.form.are_columns.Goals as goal

pub returns : goal.returns
returns c = c.eq.ensures ∙ sym (same_columns c.args.columns.now c.args.names.now)
