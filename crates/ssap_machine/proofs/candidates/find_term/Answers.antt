-- A term of each kind.
use Rattle.std.proofs.Common.{[], ◌∷◌, refl}
use Rattle.ssap_items.specs.Tags.{tag_name}
use Rattle.ssap_machine.specs.Words.{White, starting, finishing}
use Rattle.ssap_machine.specs.Options.{options}
use Rattle.ssap_machine.specs.declared.symbol.Symbol.TheVariants.{Term}
use Rattle.ssap_machine.specs.Choosing.{pushed}
use Rattle.ssap_machine.proofs.Choosing.{told_behind}
use Rattle.ssap_machine.proofs.candidates.find_term.Goals as goal

pub returns : goal.returns
unfolding options pushed starting finishing tag_name
returns c = told_behind White (Term ∷ []) tt c.find.ensures refl
