use Rattle.tests_broker.proofs.space.a_space_is_asked_without_a_call.Given as goal

abbrev pub ghosts-core_after : goal.ghosts-core_after
ghosts-core_after g a = record { name = a.blank.name; parts = a.blank.parts }
