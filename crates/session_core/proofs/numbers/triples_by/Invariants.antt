use Rattle.std.proofs.Common.{◌≡◌, take, filter_map}
use Rattle.session_core.specs.Numbers.{ids_of}
use Rattle.session_core.proofs.numbers.triples_by.Given as goal

abbrev pub invariant-loop-pattern : goal.invariant-loop-pattern
invariant-loop-pattern g l = l.triples ≡ filter_map (ids_of (g.T.Listed.listed l.table)) (take l.pattern-index l.patterns)
