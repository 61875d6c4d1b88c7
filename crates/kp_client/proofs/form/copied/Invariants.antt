-- The copies so far are of the columns so far.
use Rattle.std.proofs.Common.{◌≡◌, take}
use Rattle.kp_client.proofs.form.copied.Given as goal

abbrev pub invariant-loop-name : goal.invariant-loop-name
invariant-loop-name l = l.copied ≡ take l.name-index l.columns
