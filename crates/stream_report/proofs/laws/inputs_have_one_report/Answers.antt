use Rattle.stream_report.proofs.InputsJudged.{reports_exist, reports_once}
use Rattle.stream_report.proofs.laws.inputs_have_one_report.Goals as goal

pub returns-clause-exist : goal.returns-clause-exist
returns-clause-exist c = reports_exist

pub returns-clause-once : goal.returns-clause-once
returns-clause-once c = reports_once
