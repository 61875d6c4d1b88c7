-- Characters but for marks.
use Rattle.ssap_machine.proofs.Texts.{text_begins, text_goes_on, text_words, text_characters}
use Rattle.ssap_machine.proofs.step.step_text.Goals as goal

pub step_plain-requires-clause-begins : goal.step_plain-requires-clause-begins
step_plain-requires-clause-begins c = text_begins c.args.name c.args.bytes.now

pub step_plain-requires-clause-goes_on : goal.step_plain-requires-clause-goes_on
step_plain-requires-clause-goes_on c = text_goes_on c.args.name

pub step_plain-requires-clause-words : goal.step_plain-requires-clause-words
step_plain-requires-clause-words c = text_words c.args.name c.args.bytes.now

pub step_plain-requires-clause-characters : goal.step_plain-requires-clause-characters
step_plain-requires-clause-characters c = text_characters c.args.name
