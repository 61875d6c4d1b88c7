-- An entry begins with `+`, `>` or `-`.
use Rattle.sib_script.proofs.Steps.{stick_start}
use Rattle.sib_script.proofs.step.first_step.Goals as goal

pub returns-else-byte-eq45 : goal.returns-else-byte-eq45
returns-else-byte-eq45 c t n = stick_start c.args.byte c.if-byte-eq43.false c.if-byte-eq62.false c.if-byte-eq45.false
