use Rattle.tests_parts.proofs.joins.one_triple_over_the_limit_is_too_wide.Given as goal

abbrev pub ghosts-widths_end : goal.ghosts-widths_end
ghosts-widths_end g a = record { name = a.blank.name; parts = a.blank.parts }
