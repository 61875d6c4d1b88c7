-- The names so far are those of the columns so far.
use Rattle.std.proofs.Common.{◌≡◌, take, map}
use Rattle.session_core.specs.Answers.{name_in}
use Rattle.session_core.proofs.asking.column_names.Given as goal

abbrev pub invariant-loop-var : goal.invariant-loop-var
invariant-loop-var l = l.names ≡ map (name_in l.query.names) (take l.var-index l.query.columns)
