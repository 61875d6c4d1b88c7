use Rattle.std.proofs.Common.{◌≡◌, take}
use Rattle.session_core.specs.Graph.{terms_of}
use Rattle.session_core.proofs.numbers.terms_of.Given as goal

abbrev pub invariant-loop-pattern : goal.invariant-loop-pattern
invariant-loop-pattern l = l.terms ≡ terms_of (take l.pattern-index l.patterns)
