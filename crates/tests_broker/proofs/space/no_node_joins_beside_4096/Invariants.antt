use Rattle.tests_broker.proofs.space.no_node_joins_beside_4096.Given as goal

abbrev pub ghosts-nodes_are_limited : goal.ghosts-nodes_are_limited
ghosts-nodes_are_limited g a = record { name = a.blank.name; parts = a.blank.parts }
