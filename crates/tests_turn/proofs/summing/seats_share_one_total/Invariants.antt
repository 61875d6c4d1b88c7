use Rattle.tests_turn.proofs.summing.seats_share_one_total.Given as goal

abbrev pub ghosts-story : goal.ghosts-story
ghosts-story g a = record { name = a.blank.name; parts = a.blank.parts }
