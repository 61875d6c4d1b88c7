use Rattle.std.proofs.Common.{◌≡◌, ◌+◌, take}
use Rattle.session_core.specs.Numbers.{bytes_in}
use Rattle.session_core.proofs.texts.texts_exceed.Given as goal

abbrev pub invariant-loop-triple : goal.invariant-loop-triple
invariant-loop-triple l = l.left + bytes_in l.terms.terms (take l.triple-index l.triples) ≡ l.limit
