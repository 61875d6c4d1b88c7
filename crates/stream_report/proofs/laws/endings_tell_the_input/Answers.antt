use Rattle.stream_report.proofs.EndingsTell.{done_fine, stopped_not_fine, parts_given, spent_full}
use Rattle.stream_report.proofs.laws.endings_tell_the_input.Goals as goal

pub returns-clause-done : goal.returns-clause-done
returns-clause-done c = done_fine

pub returns-clause-stopped : goal.returns-clause-stopped
returns-clause-stopped c = stopped_not_fine

pub returns-clause-part : goal.returns-clause-part
returns-clause-part c = parts_given

pub returns-clause-spent : goal.returns-clause-spent
returns-clause-spent c = spent_full
