-- Characters but for marks and the quote.
use Rattle.std.proofs.Common.{sym, subst}
use Rattle.ssap_machine.specs.Progress.{PlainBegins, PlainGoesOn, WordsAtStops}
use Rattle.ssap_machine.specs.declared.symbol.Symbol.TheVariants.{Value}
use Rattle.ssap_machine.proofs.Texts.{value_begins, value_goes_on, value_words, value_characters}
use Rattle.ssap_machine.proofs.step.step_value.Goals as goal

pub step_plain-requires-clause-begins : goal.step_plain-requires-clause-begins
step_plain-requires-clause-begins c = subst (λ q. PlainBegins (Value c.args.single) (Value c.args.single) 60 38 q c.args.bytes.now) (sym c.quote.ensures.value) (value_begins c.args.single c.args.bytes.now)

pub step_plain-requires-clause-goes_on : goal.step_plain-requires-clause-goes_on
step_plain-requires-clause-goes_on c = subst (PlainGoesOn (Value c.args.single) 60 38) (sym c.quote.ensures.value) (value_goes_on c.args.single)

pub step_plain-requires-clause-words : goal.step_plain-requires-clause-words
step_plain-requires-clause-words c = subst (λ q. WordsAtStops (Value c.args.single) 60 38 q c.args.bytes.now) (sym c.quote.ensures.value) (value_words c.args.single c.args.bytes.now)

pub step_plain-requires-clause-characters : goal.step_plain-requires-clause-characters
step_plain-requires-clause-characters c = value_characters c.args.single
