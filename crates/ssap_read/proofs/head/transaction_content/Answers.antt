use Rattle.std.proofs.Common.{refl}
use Rattle.ssap_grammar.specs.Head.{transactions}
use Rattle.ssap_read.proofs.Words.{chosen_only, chosen_none}
use Rattle.ssap_read.proofs.head.transaction_content.Goals as goal

pub returns-in_err-value : goal.returns-in_err-value
unfolding transactions
returns-in_err-value c =
    rw c.from_residual.ensures (chosen_none transactions refl c.args.bytes.now c.skip_spaces.result.now c.skip_spaces.ensures.spaces c.skip_spaces.ensures.stops c.in_err-value.ensures)

pub returns : goal.returns
unfolding transactions
returns c =
    chosen_only transactions refl c.args.bytes.now c.skip_spaces.result.now c.in_ok-value.rest.now c.skip_spaces-2.result.now c.in_ok-value.value
    c.skip_spaces.ensures.spaces c.skip_spaces.ensures.stops c.in_ok-value.ensures c.skip_spaces-2.ensures.spaces c.skip_spaces-2.ensures.stops
