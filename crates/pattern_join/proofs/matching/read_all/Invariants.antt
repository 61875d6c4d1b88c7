use Rattle.std.proofs.Common.{◌+◌, ◌≤◌, take}
use Rattle.triple_index.specs.Fits.{fits}
use Rattle.triple_index.specs.Graphs.{count_fitting}
use Rattle.pattern_join.specs.Reading.{IsRead}
use Rattle.pattern_join.proofs.matching.read_all.Given as goal

abbrev pub invariant-loop-at : goal.invariant-loop-at
invariant-loop-at g l = record {
  read : IsRead (take l.at l.templates) l.view l.found;
  counted : l.steps ≤ l.fn.steps + count_fitting fits l.view (take l.at l.templates);
}
