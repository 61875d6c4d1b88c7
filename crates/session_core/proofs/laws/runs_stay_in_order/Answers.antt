use Rattle.session_core.proofs.Growing.{name_stays, nodes_in_order, triples_in_order}
use Rattle.session_core.proofs.laws.runs_stay_in_order.Goals as goal

pub returns : goal.returns
returns c = record { name = name_stays; nodes = nodes_in_order; triples = triples_in_order }
