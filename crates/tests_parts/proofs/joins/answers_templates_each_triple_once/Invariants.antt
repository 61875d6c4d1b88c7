use Rattle.tests_parts.proofs.joins.answers_templates_each_triple_once.Given as goal

abbrev pub ghosts-all_answered : goal.ghosts-all_answered
ghosts-all_answered g a = record { name = a.blank.name; parts = a.blank.parts }
