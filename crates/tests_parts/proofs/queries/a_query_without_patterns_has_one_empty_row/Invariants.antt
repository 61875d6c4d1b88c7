use Rattle.tests_parts.proofs.queries.a_query_without_patterns_has_one_empty_row.Given as goal

abbrev pub ghosts-of_two_uris : goal.ghosts-of_two_uris
ghosts-of_two_uris g a = record { name = a.blank.name; parts = a.blank.parts }
