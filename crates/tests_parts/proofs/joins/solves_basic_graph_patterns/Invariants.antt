use Rattle.tests_parts.proofs.joins.solves_basic_graph_patterns.Given as goal

abbrev pub ghosts-all_solved : goal.ghosts-all_solved
ghosts-all_solved g a = record { name = a.blank.name; parts = a.blank.parts }
