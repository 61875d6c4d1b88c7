-- The items of each list, and its finishing tag.
use Rattle.std.proofs.lemmas.List.{append-nil}
use Rattle.std.proofs.Common.{[], ◌∷◌, refl}
use Rattle.ssap_machine.specs.Words.{White}
use Rattle.ssap_machine.specs.Options.{options}
use Rattle.ssap_machine.specs.declared.symbol.Symbol.TheVariants.{Many}
use Rattle.ssap_machine.specs.Choosing.{pushed}
use Rattle.ssap_machine.proofs.Choosing.{told_at}
use Rattle.ssap_machine.proofs.candidates.find_item.Goals as goal

pub returns : goal.returns
unfolding options pushed
returns c = told_at (Many c.args.list) (Many c.args.list) White (Many c.args.list ∷ []) tt refl c.find.ensures
    (rw (c.finish_tag.ensures, c.item_of.ensures, append-nil) refl)
