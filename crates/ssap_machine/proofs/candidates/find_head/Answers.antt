-- The heads that did not stand yet, a parameter, and the end.
use Rattle.std.proofs.Common.{[], ◌∷◌, refl, append_assoc}
use Rattle.std.proofs.lemmas.List.{append-nil}
use Rattle.ssap_items.specs.Tags.{tag_name}
use Rattle.ssap_machine.specs.Words.{White, starting, finishing}
use Rattle.ssap_machine.specs.Options.{options}
use Rattle.ssap_machine.specs.declared.symbol.Symbol.TheVariants.{Items}
use Rattle.ssap_machine.specs.Choosing.{pushed}
use Rattle.ssap_machine.proofs.Choosing.{told_at}
use Rattle.ssap_machine.proofs.candidates.find_head.Goals as goal

pub returns : goal.returns
unfolding options pushed starting finishing tag_name
returns c = told_at (Items c.args.seen) (Items c.args.seen) White (Items c.args.seen ∷ []) tt refl c.find.ensures (rw c.is_complete.ensures (simp (append_assoc, append-nil) refl))
