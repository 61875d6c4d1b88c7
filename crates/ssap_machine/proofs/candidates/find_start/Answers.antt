-- A declaration or the message's element.
use Rattle.std.proofs.Common.{refl}
use Rattle.ssap_items.specs.Tags.{tag_name}
use Rattle.ssap_machine.specs.Words.{starting, finishing}
use Rattle.ssap_machine.specs.Options.{options}
use Rattle.ssap_machine.specs.Choosing.{pushed}
use Rattle.ssap_machine.proofs.Choosing.{told}
use Rattle.ssap_machine.proofs.candidates.find_start.Goals as goal

pub returns : goal.returns
unfolding options pushed starting finishing tag_name
returns c = told c.find.ensures refl
