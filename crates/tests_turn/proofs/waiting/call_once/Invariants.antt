use Rattle.tests_turn.proofs.waiting.call_once.Given as goal

abbrev pub ghosts-call : goal.ghosts-call
ghosts-call g a = record { name = a.blank.name; parts = a.blank.parts }
