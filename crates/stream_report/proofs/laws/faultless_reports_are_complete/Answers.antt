use Rattle.stream_report.proofs.EndingsTell.{faultless_complete}
use Rattle.stream_report.proofs.laws.faultless_reports_are_complete.Goals as goal

pub returns : goal.returns
returns c = faultless_complete
