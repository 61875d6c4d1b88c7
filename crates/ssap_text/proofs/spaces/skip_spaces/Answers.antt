-- A byte that is passed is white space.
use Rattle.std.proofs.Common.{arith, sym, ◌∙◌}
use Rattle.ssap_text.proofs.White.{spaces_more}
use Rattle.ssap_text.proofs.spaces.skip_spaces.Goals as goal

pub loop-rest-preserved : goal.loop-rest-preserved
loop-rest-preserved c =
    spaces_more c.args.bytes.now c.loop-rest.rest.now c.loop-rest.invariant (omega arith)
    (sym c.is_space.ensures ∙ c.if-not-is_space.false)
