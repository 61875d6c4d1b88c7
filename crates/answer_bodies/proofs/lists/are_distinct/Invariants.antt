-- The texts so far differ.
use Rattle.std.proofs.Common.{take}
use Rattle.std.specs.List.{IsDistinct}
use Rattle.m3_terms.specs.Order.{text_eq}
use Rattle.answer_bodies.proofs.lists.are_distinct.Given as goal

abbrev pub invariant-loop-i : goal.invariant-loop-i
invariant-loop-i l = IsDistinct text_eq (take l.i l.texts)
