use Rattle.stream_report.proofs.EndingsTell.{others_none}
use Rattle.stream_report.proofs.laws.failures_have_causes.Goals as goal

pub returns-clause-others : goal.returns-clause-others
returns-clause-others c = others_none
