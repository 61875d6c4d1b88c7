-- The end of a tag.
use Rattle.std.proofs.Common.{refl}
use Rattle.std.proofs.lemmas.List.{append-nil}
use Rattle.ssap_items.specs.Tags.{tag_name}
use Rattle.ssap_machine.specs.Words.{starting, finishing}
use Rattle.ssap_machine.specs.Options.{options, opened}
use Rattle.ssap_machine.specs.Choosing.{pushed}
use Rattle.ssap_machine.proofs.Choosing.{told}
use Rattle.ssap_machine.proofs.candidates.find_end.Goals as goal

pub returns : goal.returns
unfolding options pushed starting finishing tag_name
returns c = told {choices = opened c.args.name} c.find.ensures (rw c.is_often_empty.ensures (simp append-nil refl))
