-- A first character, and a text.
use Rattle.std.proofs.Common.{[], ◌∷◌}
use Rattle.ssap_machine.specs.declared.symbol.Symbol.TheVariants.{Blank, Text}
use Rattle.ssap_items.specs.declared.tags.TagName.TheVariants as tag
use Rattle.ssap_machine.specs.Words.{Except}
use Rattle.ssap_machine.proofs.Facts.{pushed_fit}
use Rattle.ssap_machine.proofs.Texts.{blank_among, blank_begins, blank_words, blank_characters, text_goes_on}
use Rattle.ssap_machine.proofs.step.step_blank.Goals as goal

pub step_plain-requires-clause-room : goal.step_plain-requires-clause-room
step_plain-requires-clause-room c = pushed_fit Blank (Except (60 ∷ 38 ∷ 0x20 ∷ 9 ∷ 13 ∷ 10 ∷ [])) (Text tag.Parameter ∷ []) c.args.stack.now blank_among c.requires.fits

pub step_plain-requires-clause-begins : goal.step_plain-requires-clause-begins
step_plain-requires-clause-begins c = blank_begins c.args.bytes.now c.requires.tight

pub step_plain-requires-clause-goes_on : goal.step_plain-requires-clause-goes_on
step_plain-requires-clause-goes_on c = text_goes_on tag.Parameter

pub step_plain-requires-clause-words : goal.step_plain-requires-clause-words
step_plain-requires-clause-words c = blank_words c.args.bytes.now c.requires.tight

pub step_plain-requires-clause-characters : goal.step_plain-requires-clause-characters
step_plain-requires-clause-characters c = blank_characters
