-- The walk stops at the byte that leads nowhere.
use Rattle.std.proofs.Common.{subst, sym}
use Rattle.std.proofs.Math.Seq.{drop-cons}
use Rattle.sib_script.specs.Steps.{Halts}
use Rattle.sib_script.proofs.step.walk.Goals as goal

pub returns-in-None-clause-stops : goal.returns-in-None-clause-stops
returns-in-None-clause-stops c h =
    subst (Halts c.loop-at.step) (sym (drop-cons c.args.bytes.now c.loop-at.at 0 c.loop-at-test.true)) (c.in-None.ensures h)
