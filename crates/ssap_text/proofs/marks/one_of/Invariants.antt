use Rattle.std.proofs.Common.{ℕ, List, drop}
use Rattle.ssap_grammar.specs.Front.{OneOf}
use Rattle.ssap_text.specs.Pieces.{words}
use Rattle.ssap_text.proofs.marks.one_of.Given as goal

-- a word of the table that stands at the front is among those that are left
abbrev pub invariant-loop-word : goal.invariant-loop-word
invariant-loop-word l = (value rest : List ℕ) → OneOf (words l.table) value l.bytes rest → OneOf (words (drop l.word-index l.table)) value l.bytes rest
