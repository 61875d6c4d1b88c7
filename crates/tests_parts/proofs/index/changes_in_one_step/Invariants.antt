use Rattle.tests_parts.proofs.index.changes_in_one_step.Given as goal

abbrev pub ghosts-update : goal.ghosts-update
ghosts-update g a = record { name = a.blank.name; parts = a.blank.parts }
