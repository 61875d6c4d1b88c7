use Rattle.std.proofs.Common.{◌+◌, ◌≤◌, take}
use Rattle.triple_index.specs.Fits.{fits}
use Rattle.triple_index.specs.Graphs.{count_fitting}
use Rattle.triple_index.specs.Parts.{HasFitting}
use Rattle.triple_index.proofs.change.read_fitting.Given as goal

abbrev pub invariant-loop-pattern : goal.invariant-loop-pattern
invariant-loop-pattern g l = record {
  fitting : HasFitting l.index.triples (take l.pattern-index l.patterns) l.read.items;
  counted : l.steps ≤ l.fn.steps + count_fitting fits l.index.triples (take l.pattern-index l.patterns);
}
