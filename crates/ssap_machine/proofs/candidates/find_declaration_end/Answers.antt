-- The end, or an encoding.
use Rattle.std.proofs.Common.{[], ◌∷◌, refl}
use Rattle.ssap_items.specs.Tags.{tag_name}
use Rattle.ssap_machine.specs.Words.{White, starting, finishing}
use Rattle.ssap_machine.specs.Options.{options}
use Rattle.ssap_machine.specs.declared.symbol.Symbol.TheVariants.{DeclarationEnd, DeclarationSpaced}
use Rattle.ssap_machine.specs.Choosing.{pushed}
use Rattle.ssap_machine.proofs.Choosing.{told_at}
use Rattle.ssap_machine.proofs.candidates.find_declaration_end.Goals as goal

pub returns-clause-end : goal.returns-clause-end
unfolding options pushed starting finishing tag_name
returns-clause-end c none = told_at DeclarationEnd DeclarationEnd White (DeclarationSpaced ∷ []) tt refl c.find.ensures (rw none refl)

pub returns-clause-encoding : goal.returns-clause-encoding
unfolding options pushed starting finishing tag_name
returns-clause-encoding c some = told_at DeclarationSpaced DeclarationSpaced White (DeclarationSpaced ∷ []) tt refl c.find.ensures (rw some refl)
