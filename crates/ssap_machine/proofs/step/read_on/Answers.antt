-- White space, or what stands in front of none.
use Rattle.std.proofs.Common.{[], ◌∷◌, sym, subst, arith}
use Rattle.ssap_machine.specs.Progress.{Steps}
use Rattle.ssap_machine.specs.declared.step.Step.TheVariants.{Taken}
use Rattle.ssap_machine.proofs.Facts.{pushed_fit}
use Rattle.ssap_machine.proofs.Whites.{whites_taken, white_among}
use Rattle.ssap_machine.specs.Words.{White}
use Rattle.ssap_machine.proofs.step.read_on.Goals as goal

pub returns-in-Some : goal.returns-in-Some
returns-in-Some c = subst (Steps c.args.symbol c.args.bytes.now (Taken c.white_len-count.result) c.args.stack.now) (sym c.push.ensures)
    (whites_taken c.args.symbol c.in-Some.next c.args.stack.now c.args.bytes.now c.white_len-count.result (sym c.in-Some.ensures) c.white_len-count.ensures.white
    (omega (arith, c.if-count-eq0.false)) c.white_len-count.ensures.within)

pub push-requires : goal.push-requires
push-requires c = (pushed_fit c.args.symbol White (c.in-Some.next ∷ []) c.args.stack.now (white_among c.args.symbol c.in-Some.next (sym c.in-Some.ensures)) c.requires).0
