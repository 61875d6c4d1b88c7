use Rattle.stream_report.proofs.StopsPlaced.{stops_placed}
use Rattle.stream_report.proofs.laws.stops_are_placed.Goals as goal

pub returns : goal.returns
returns c = stops_placed
