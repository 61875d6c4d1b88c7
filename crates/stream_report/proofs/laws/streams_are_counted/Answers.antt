use Rattle.stream_report.proofs.FineInputs.{counted, counts_streams, shown}
use Rattle.stream_report.proofs.laws.streams_are_counted.Goals as goal

pub returns-clause-counted : goal.returns-clause-counted
returns-clause-counted c = counted

pub returns-clause-streams : goal.returns-clause-streams
returns-clause-streams c = counts_streams

pub returns-clause-shown : goal.returns-clause-shown
returns-clause-shown c = shown
