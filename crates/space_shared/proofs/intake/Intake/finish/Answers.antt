use Rattle.std.proofs.Common.{sym, subst}
use Rattle.space_shared.specs.Listening.{Finishes}
use Rattle.space_shared.proofs.Deliveries.{finishes_whole, finishes_cut}
use Rattle.space_shared.proofs.intake.Intake.finish.Goals as goal

-- the input is over between messages
pub returns-in-Ok-clause-finishes : goal.returns-in-Ok-clause-finishes
returns-in-Ok-clause-finishes c link first read now x = finishes_whole link first now read c.args.self.now x c.end.new.self c.in-Ok.ensures.stands

-- or inside one
pub returns-in-Err-clause-finishes : goal.returns-in-Err-clause-finishes
returns-in-Err-clause-finishes c link first read now x =
    subst (λ e. Finishes link first read e now) (sym c.end_of.ensures) (finishes_cut link first now read c.args.self.now x c.end.new.self c.in-Err.stop c.in-Err.ensures.stands)
