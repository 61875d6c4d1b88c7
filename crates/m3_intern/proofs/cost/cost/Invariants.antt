use Rattle.std.proofs.Common.{◌≡◌, ◌-◌, ◌^◌, min, take}
use Rattle.m3_intern.specs.Interned.{bytes_of_terms}
use Rattle.m3_intern.proofs.cost.cost.Given as goal

abbrev pub invariant-loop-term : goal.invariant-loop-term
invariant-loop-term l = l.sum ≡ min (bytes_of_terms (take l.term-index l.terms)) (2 ^ 64 - 1)
