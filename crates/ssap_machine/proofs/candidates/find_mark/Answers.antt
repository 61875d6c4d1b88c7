-- The finishing tag, a reference, or a CDATA section.
use Rattle.std.proofs.Common.{[], ◌∷◌, refl}
use Rattle.ssap_grammar.specs.Text.{references}
use Rattle.ssap_items.specs.Tags.{tag_name}
use Rattle.ssap_machine.specs.Words.{Except, starting}
use Rattle.ssap_machine.specs.Options.{options}
use Rattle.ssap_machine.specs.declared.symbol.Symbol.TheVariants.{Text}
use Rattle.ssap_machine.specs.Choosing.{pushed}
use Rattle.ssap_machine.proofs.Choosing.{told_at}
use Rattle.ssap_machine.proofs.candidates.find_mark.Goals as goal

pub returns : goal.returns
unfolding options pushed starting tag_name references
returns c = told_at (Text c.args.name) (Text c.args.name) (Except (60 ∷ 38 ∷ [])) (Text c.args.name ∷ []) tt refl c.find.ensures (rw c.finish_tag.ensures refl)
