-- The end of a tag that has a name.
use Rattle.std.proofs.Common.{[], ◌∷◌, refl, append_assoc}
use Rattle.std.proofs.lemmas.List.{append-nil}
use Rattle.ssap_items.specs.Tags.{tag_name}
use Rattle.ssap_machine.specs.Words.{White, starting, finishing}
use Rattle.ssap_machine.specs.Options.{options}
use Rattle.ssap_machine.specs.declared.symbol.Symbol.TheVariants.{Parameter, ParameterSpaced}
use Rattle.ssap_machine.specs.Choosing.{pushed}
use Rattle.ssap_machine.proofs.Choosing.{told_at}
use Rattle.ssap_machine.proofs.candidates.find_parameter.Goals as goal

pub returns : goal.returns
unfolding options pushed starting finishing tag_name
returns c = told_at (Parameter c.args.named c.args.encoded) (Parameter c.args.named c.args.encoded) White (ParameterSpaced c.args.named c.args.encoded ∷ []) tt refl c.find.ensures (simp (append_assoc, append-nil) refl)
