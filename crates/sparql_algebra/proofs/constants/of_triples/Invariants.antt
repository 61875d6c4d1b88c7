-- The terms of the patterns so far are appended.
use Rattle.std.proofs.Common.{◌≡◌, ◌++◌, take, flat_map}
use Rattle.sparql_algebra.specs.Constants.{of_triple}
use Rattle.sparql_algebra.proofs.constants.of_triples.Given as goal

abbrev pub invariant-loop-pattern : goal.invariant-loop-pattern
invariant-loop-pattern l = l.into ≡ l.fn.into ++ flat_map of_triple (take l.pattern-index l.patterns)
