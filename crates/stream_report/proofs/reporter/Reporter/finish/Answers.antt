use Rattle.stream_report.proofs.MessagesGiven.{finishes_fine, finishes_cut}
use Rattle.stream_report.proofs.reporter.Reporter.finish.Goals as goal

-- the input is over between messages
pub returns-in-Ok : goal.returns-in-Ok
returns-in-Ok g c report old read x = finishes_fine report old _ read c.args.self.now x _ c.end.new.self c.conclude.result c.in-Ok.ensures.stands c.conclude.ensures

-- or inside one
pub returns-in-Err : goal.returns-in-Err
returns-in-Err g c report old read x = finishes_cut report old _ read c.args.self.now x _ c.end.new.self c.in-Err.stop c.halt.result c.in-Err.ensures.stands c.halt.ensures
