use Rattle.std.proofs.Common.{◌≡◌, take, filter_map}
use Rattle.session_core.specs.Numbers.{pattern_in}
use Rattle.session_core.proofs.numbers.patterns_by.Given as goal

abbrev pub invariant-loop-pattern : goal.invariant-loop-pattern
invariant-loop-pattern g l = l.ids ≡ filter_map (pattern_in (g.T.Listed.listed l.table)) (take l.pattern-index l.patterns)
