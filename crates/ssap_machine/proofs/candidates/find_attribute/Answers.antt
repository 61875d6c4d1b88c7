-- The attribute, or the end of the tag.
use Rattle.std.proofs.Common.{[], ◌∷◌, refl}
use Rattle.std.proofs.lemmas.List.{append-nil}
use Rattle.ssap_items.specs.Tags.{tag_name}
use Rattle.ssap_machine.specs.Words.{White, starting, finishing}
use Rattle.ssap_machine.specs.Options.{options}
use Rattle.ssap_machine.specs.declared.symbol.Symbol.TheVariants.{OptionalSpaced}
use Rattle.ssap_machine.specs.Choosing.{pushed}
use Rattle.ssap_machine.proofs.Choosing.{told_at}
use Rattle.ssap_machine.proofs.candidates.find_attribute.Goals as goal

pub returns : goal.returns
unfolding options pushed starting finishing tag_name
returns c = told_at (OptionalSpaced c.args.name) (OptionalSpaced c.args.name) White (OptionalSpaced c.args.name ∷ []) tt refl c.find.ensures (rw (c.attribute_of.ensures, c.is_often_empty.ensures) (simp append-nil refl))
