use Rattle.session_core.proofs.Growing.{updates_counted, graph_of_updates}
use Rattle.session_core.proofs.laws.updates_make_the_graph.Goals as goal

pub returns : goal.returns
returns c = record { counted = updates_counted; graph = graph_of_updates }
