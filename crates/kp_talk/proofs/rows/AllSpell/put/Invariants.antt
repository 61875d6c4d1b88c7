use Rattle.std.proofs.Common.{take}
use Rattle.std.specs.List.{flat_map}
use Rattle.kp_talk.proofs.rows.AllSpell.put.Given as goal

-- the items so far went out
abbrev pub invariant-loop-item : goal.invariant-loop-item
invariant-loop-item g l = g.O.Out.puts l.fn.out l.out (flat_map g.T.Printed.text (take l.item-index l.item-items))
