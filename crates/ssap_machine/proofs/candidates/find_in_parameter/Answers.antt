-- What may stand in a parameter.
use Rattle.std.proofs.Common.{[], ◌∷◌, refl}
use Rattle.ssap_grammar.specs.Text.{references}
use Rattle.ssap_items.specs.declared.tags.TagName.TheVariants as tag
use Rattle.ssap_items.specs.Tags.{tag_name}
use Rattle.ssap_machine.specs.Words.{White, Except, starting, finishing}
use Rattle.ssap_machine.specs.Options.{options}
use Rattle.ssap_machine.specs.declared.symbol.Symbol.TheVariants.{Blank, Text}
use Rattle.ssap_machine.specs.Choosing.{pushed}
use Rattle.ssap_machine.proofs.Choosing.{told_behind_two}
use Rattle.ssap_machine.proofs.candidates.find_in_parameter.Goals as goal

pub returns : goal.returns
unfolding options pushed starting finishing tag_name references
returns c = told_behind_two White (Except (60 ∷ 38 ∷ 0x20 ∷ 9 ∷ 13 ∷ 10 ∷ [])) (Blank ∷ []) (Text tag.Parameter ∷ []) tt tt c.find.ensures refl
