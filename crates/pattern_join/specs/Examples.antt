-- Worked examples of answers to templates.
use Rattle.std.specs.Prelude.{◌≡◌, Some, None, [], ◌∷◌, refl}
use Rattle.triple_index.specs.declared.triple.IdTriple.{IdTriple}
use Rattle.triple_index.specs.declared.triple.IdPattern.{IdPattern}
use Rattle.pattern_join.specs.Answers.{answer, width}

-- the template (* 2 *)
abbrev by_predicate : IdPattern
by_predicate = record { subject = None; predicate = Some (record { 0 = 2 }); object = None }

-- the template (* * 3)
abbrev by_object : IdPattern
by_object = record { subject = None; predicate = None; object = Some (record { 0 = 3 }) }

-- the triples (1 2 3), (1 2 5) and (6 7 3)
abbrev both : IdTriple
both = record { subject = record { 0 = 1 }; predicate = record { 0 = 2 }; object = record { 0 = 3 } }

abbrev first : IdTriple
first = record { subject = record { 0 = 1 }; predicate = record { 0 = 2 }; object = record { 0 = 5 } }

abbrev second : IdTriple
second = record { subject = record { 0 = 6 }; predicate = record { 0 = 7 }; object = record { 0 = 3 } }

-- what fits one template, and what fits the other, stands in the order of the graph
example_order : answer (by_object ∷ by_predicate ∷ []) (first ∷ second ∷ []) ≡ first ∷ second ∷ []
example_order = refl

-- a triple that fits two templates counts once
example_width : width (by_predicate ∷ by_object ∷ []) (both ∷ first ∷ []) ≡ 2
example_width = refl

-- nothing answers no templates
example_none : answer [] (both ∷ []) ≡ []
example_none = refl
