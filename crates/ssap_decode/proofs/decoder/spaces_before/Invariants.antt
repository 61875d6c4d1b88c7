use Rattle.std.proofs.Common.{take}
use Rattle.std.specs.List.{AllByRecursion}
use Rattle.ssap_grammar.specs.Characters.{IsWhite}
use Rattle.ssap_decode.proofs.decoder.spaces_before.Given as goal

abbrev pub invariant-loop-at : goal.invariant-loop-at
invariant-loop-at l = AllByRecursion IsWhite (take l.at l.bytes)
