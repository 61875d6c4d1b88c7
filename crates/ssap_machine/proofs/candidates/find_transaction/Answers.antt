-- The transactions are tried.
use Rattle.std.proofs.Common.{refl}
use Rattle.ssap_grammar.specs.Head.{transactions}
use Rattle.ssap_machine.specs.Words.{words}
use Rattle.ssap_machine.specs.Options.{options}
use Rattle.ssap_machine.specs.Choosing.{pushed}
use Rattle.ssap_machine.proofs.Choosing.{told_listed}
use Rattle.ssap_machine.proofs.candidates.find_transaction.Goals as goal

pub returns : goal.returns
unfolding options words pushed transactions
returns c = told_listed refl c.find.ensures refl
