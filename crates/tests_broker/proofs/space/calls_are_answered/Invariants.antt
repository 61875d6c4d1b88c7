use Rattle.tests_broker.proofs.space.calls_are_answered.Given as goal

abbrev pub ghosts-is_answered : goal.ghosts-is_answered
ghosts-is_answered g a = record { name = a.blank.name; parts = a.blank.parts }
