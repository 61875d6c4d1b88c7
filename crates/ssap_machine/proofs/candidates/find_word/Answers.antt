-- By the symbol.
use Rattle.std.proofs.Common.{[], ◌∷◌, refl}
use Rattle.ssap_machine.specs.Words.{White}
use Rattle.ssap_machine.specs.Options.{options, opened}
use Rattle.ssap_machine.specs.declared.symbol.Symbol.TheVariants.{Next, Spaced, Open, Optional, OptionalSpaced}
use Rattle.ssap_machine.proofs.Choosing.{told_at, tells_at}
use Rattle.ssap_machine.proofs.candidates.find_word.Goals as goal

pub returns-in-Spaced : goal.returns-in-Spaced
unfolding options
returns-in-Spaced c = told_at c.args.symbol (Spaced c.in-Spaced.field-0) White (Next c.in-Spaced.field-0 ∷ []) tt c.in-Spaced.is c.find.ensures refl

pub returns-in-Open : goal.returns-in-Open
unfolding options
returns-in-Open c = tells_at c.args.symbol (Open c.in-Open.name) (Open c.in-Open.name ∷ []) (opened c.in-Open.name) c.args.bytes.now c.find_end.result c.in-Open.is refl c.find_end.ensures

pub returns-in-Optional : goal.returns-in-Optional
unfolding options
returns-in-Optional c = tells_at c.args.symbol (Optional c.in-Optional.name) (OptionalSpaced c.in-Optional.name ∷ []) (opened c.in-Optional.name) c.args.bytes.now c.find_end-in-Optional.result c.in-Optional.is refl c.find_end-in-Optional.ensures
