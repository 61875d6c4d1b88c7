use Rattle.tests_broker.proofs.space.no_triple_is_inserted_beside_262144.Given as goal

abbrev pub ghosts-triples_are_limited : goal.ghosts-triples_are_limited
ghosts-triples_are_limited g a = record { name = a.blank.name; parts = a.blank.parts }
