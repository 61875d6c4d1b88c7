use Rattle.tests_parts.proofs.index.hands_out_the_rows_that_fit.Given as goal

abbrev pub ghosts-rows_fit : goal.ghosts-rows_fit
ghosts-rows_fit g a = record { name = a.blank.name; parts = a.blank.parts }
