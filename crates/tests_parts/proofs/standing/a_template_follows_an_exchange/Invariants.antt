use Rattle.tests_parts.proofs.standing.a_template_follows_an_exchange.Given as goal

abbrev pub ghosts-of_all : goal.ghosts-of_all
ghosts-of_all g a = record { name = a.blank.name; parts = a.blank.parts }
