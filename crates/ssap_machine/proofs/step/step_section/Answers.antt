-- By the brackets.
use Rattle.std.proofs.Common.{[], ◌∷◌, subst}
use Rattle.ssap_machine.specs.declared.symbol.Symbol.TheVariants.{Cdata}
use Rattle.ssap_machine.specs.declared.symbol.Brackets.TheVariants as bracket
use Rattle.ssap_machine.specs.Words.{Except}
use Rattle.ssap_machine.proofs.Facts.{pushed_fit}
use Rattle.ssap_machine.proofs.Texts.{section_among, section_refused, section_begins_one, section_goes_on, section_words, section_characters}
use Rattle.ssap_machine.specs.Heights.{Fits}
use Rattle.ssap_machine.proofs.step.step_section.Goals as goal

pub step_plain-requires-clause-begins : goal.step_plain-requires-clause-begins
step_plain-requires-clause-begins c = λ character rest plain e. section_goes_on character plain

pub step_plain-requires-clause-goes_on : goal.step_plain-requires-clause-goes_on
step_plain-requires-clause-goes_on c = section_goes_on

pub step_plain-requires-clause-words : goal.step_plain-requires-clause-words
step_plain-requires-clause-words c = section_words bracket.None c.args.bytes.now

pub step_plain-requires-clause-characters : goal.step_plain-requires-clause-characters
step_plain-requires-clause-characters c = section_characters bracket.None

pub step_plain-requires-in-One-clause-room : goal.step_plain-requires-in-One-clause-room
step_plain-requires-in-One-clause-room c = pushed_fit (Cdata bracket.One) (Except (section_refused bracket.One)) (Cdata bracket.None ∷ []) c.args.stack.now (section_among bracket.One)
    (subst (λ b. Fits (Cdata b ∷ c.args.stack.now)) c.in-One.is c.requires)

pub step_plain-requires-in-One-clause-begins : goal.step_plain-requires-in-One-clause-begins
step_plain-requires-in-One-clause-begins c = section_begins_one c.args.bytes.now

pub step_plain-requires-in-One-clause-goes_on : goal.step_plain-requires-in-One-clause-goes_on
step_plain-requires-in-One-clause-goes_on c = section_goes_on

pub step_plain-requires-in-One-clause-words : goal.step_plain-requires-in-One-clause-words
step_plain-requires-in-One-clause-words c = section_words bracket.One c.args.bytes.now

pub step_plain-requires-in-One-clause-characters : goal.step_plain-requires-in-One-clause-characters
step_plain-requires-in-One-clause-characters c = section_characters bracket.One
