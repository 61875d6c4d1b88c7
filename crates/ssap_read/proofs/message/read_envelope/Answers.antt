use Rattle.std.proofs.Common.{ap, length, arith}
use Rattle.ssap_read.proofs.Messaging.{message_none, message_longer}
use Rattle.ssap_read.proofs.message.read_envelope.Goals as goal

pub returns-in_default-clause-none : goal.returns-in_default-clause-none
returns-in_default-clause-none c =
    message_none c.args.bytes.now _ c.skip_declaration-begin.ensures (rw c.in_default.is at c.in_ok-envelope.ensures)

pub returns-then-not-is_empty-clause-none : goal.returns-then-not-is_empty-clause-none
returns-then-not-is_empty-clause-none c =
    message_longer c.args.bytes.now _ _ _ c.skip_declaration-begin.ensures (rw c.in-Some.is at c.in_ok-envelope.ensures) (λ e. let f = ap length e in let h = c.if-not-is_empty.ensures in grind arith)
