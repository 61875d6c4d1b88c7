use Rattle.std.proofs.Common.{refl, sym, subst}
use Rattle.sib_replay.specs.Ending.{Outside, outside}
use Rattle.sib_app.specs.Commands.{meant}
use Rattle.sib_app.specs.Ending.{Comes}
use Rattle.sib_app.specs.declared.command.Command.{Command}
use Rattle.sib_app.proofs.run.run.Goals as goal

-- a script was made, and nothing was read
pub returns-in-Make-clause-comes : goal.returns-in-Make-clause-comes
returns-in-Make-clause-comes g c =
    let left = g.S.Source.left c.args.source.now in
    let reads = g.S.Source.faults c.args.source.now in
    let old : Outside = outside left (g.K.Sink.given c.args.sink.now) reads (g.K.Sink.faults c.args.sink.now) c.args.steps.now in
    let new : Outside = outside left (g.K.Sink.given c.make.new.sink) reads (g.K.Sink.faults c.make.new.sink) c.args.steps.now in
    subst (λ (command : Command). Comes (meant command) old new c.status-in-Make.result) (sym c.in-Make.is)
    (c.make.result, c.status-in-Make.ensures, c.make.ensures.made left reads c.args.steps.now, record { left = refl; faults = refl }, refl)
