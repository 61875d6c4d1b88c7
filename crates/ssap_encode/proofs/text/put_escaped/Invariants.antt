use Rattle.std.proofs.Common.{◌≡◌, ◌≤◌, take, drop}
use Rattle.ssap_items.specs.Canon.{escaped}
use Rattle.ssap_encode.proofs.text.put_escaped.Given as goal

-- the text before the run went out, and the run stands for itself
abbrev pub invariant-loop-at : goal.invariant-loop-at
invariant-loop-at g l = record {
  behind : l.from ≤ l.at;
  so_far : g.O.Out.puts l.fn.out l.out (escaped (take l.from l.text));
  plain : escaped (drop l.from (take l.at l.text)) ≡ drop l.from (take l.at l.text);
}
