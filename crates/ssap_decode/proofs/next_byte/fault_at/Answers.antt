-- The machine is stuck at the byte, or a message goes on with it.
use Rattle.std.proofs.Common.{length, drop, arith}
use Rattle.std.proofs.lemmas.List.{take_rest}
use Rattle.ssap_machine.proofs.ShortLexemes.{pending_short}
use Rattle.ssap_decode.proofs.OneByte.{one_dead, one_goes}
use Rattle.ssap_decode.proofs.next_byte.fault_at.Goals as goal

pub walk_one-walked-requires : goal.walk_one-walked-requires
walk_one-walked-requires c =
    let short = pending_short c.args.stack.now (drop c.args.read c.args.message.now) c.requires.unfinished.pending in
    rw (take_rest c.args.message.now c.args.read) short

pub returns-in-Stuck : goal.returns-in-Stuck
returns-in-Stuck c =
    one_dead c.args.message.now _ c.args.byte c.args.stack.now c.args.read c.walk_one-walked.result c.requires.unfinished c.requires.begun
    (take_rest c.args.message.now c.args.read) c.walk_one-walked.ensures c.in-Stuck.is

pub returns-then-message-eq-MESSAGE_LIMIT : goal.returns-then-message-eq-MESSAGE_LIMIT
returns-then-message-eq-MESSAGE_LIMIT c = (
  c.if-message-eq-MESSAGE_LIMIT.true,
  one_goes c.args.message.now _ c.args.byte c.args.stack.now c.args.read c.walk_one-walked.result c.requires.unfinished
      (take_rest c.args.message.now c.args.read) c.walk_one-walked.ensures c.in_default.not-Stuck,
)

pub returns : goal.returns
returns c =
    let fits = c.requires.fits in
    let short = c.if-message-eq-MESSAGE_LIMIT.false in (
      omega arith,
      one_goes c.args.message.now _ c.args.byte c.args.stack.now c.args.read c.walk_one-walked.result c.requires.unfinished
          (take_rest c.args.message.now c.args.read) c.walk_one-walked.ensures c.in_default.not-Stuck,
    )
