-- By how many bytes there are.
use Rattle.std.proofs.Common.{arith}
use Rattle.ssap_machine.proofs.Encodings.{stuck_first}
use Rattle.ssap_machine.proofs.characters.character_front.Goals as goal

pub returns-in_default : goal.returns-in_default
returns-in_default c = stuck_first c.args.bytes.now c.requires.some c.requires.high (λ low high. omega arith)

pub returns-in_default-2 : goal.returns-in_default-2
returns-in_default-2 c = stuck_first c.args.bytes.now c.requires.some c.requires.high (λ low high. omega arith)
