-- The end, or more of the section.
use Rattle.std.proofs.Common.{[], ◌∷◌}
use Rattle.ssap_machine.specs.declared.symbol.Symbol.TheVariants.{Cdata}
use Rattle.ssap_machine.specs.declared.symbol.Brackets.TheVariants as bracket
use Rattle.ssap_machine.specs.Words.{Except}
use Rattle.ssap_machine.proofs.Facts.{pushed_fit}
use Rattle.ssap_machine.proofs.Texts.{section_among, section_refused, section_begins_some, section_goes_on, section_words, section_characters, section_end}
use Rattle.ssap_machine.proofs.step.step_after_brackets.Goals as goal

pub step_word-requires-clause-words : goal.step_word-requires-clause-words
step_word-requires-clause-words c = section_end c.args.bytes.now c.if-bytes-eq62.true

pub step_plain-requires-clause-room : goal.step_plain-requires-clause-room
step_plain-requires-clause-room c = pushed_fit (Cdata bracket.Some) (Except (section_refused bracket.Some)) (Cdata bracket.None ∷ []) c.args.stack.now (section_among bracket.Some) c.requires

pub step_plain-requires-clause-begins : goal.step_plain-requires-clause-begins
step_plain-requires-clause-begins c = section_begins_some c.args.bytes.now c.if-bytes-eq62.false

pub step_plain-requires-clause-goes_on : goal.step_plain-requires-clause-goes_on
step_plain-requires-clause-goes_on c = section_goes_on

pub step_plain-requires-clause-words : goal.step_plain-requires-clause-words
step_plain-requires-clause-words c = section_words bracket.Some c.args.bytes.now

pub step_plain-requires-clause-characters : goal.step_plain-requires-clause-characters
step_plain-requires-clause-characters c = section_characters bracket.Some
