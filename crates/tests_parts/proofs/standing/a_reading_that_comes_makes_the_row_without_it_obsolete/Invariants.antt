use Rattle.tests_parts.proofs.standing.a_reading_that_comes_makes_the_row_without_it_obsolete.Given as goal

abbrev pub ghosts-with_reading : goal.ghosts-with_reading
ghosts-with_reading g a = record { name = a.blank.name; parts = a.blank.parts }
