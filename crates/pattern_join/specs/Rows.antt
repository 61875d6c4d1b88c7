-- Triples of numbers as rows.
use Rattle.std.specs.Prelude.{◌≡◌, List, [], ◌∷◌, refl}
use Rattle.sparql_algebra.specs.Solutions.{three}
use Rattle.sparql_algebra.specs.declared.mapping.Binding.{Binding}
use Rattle.triple_index.specs.declared.triple.IdTriple.{IdTriple}

-- the row of a triple: the variables 0, 1 and 2 are bound to its three numbers
abbrev pub row : IdTriple → List Binding
row triple = three triple.subject triple.predicate triple.object

-- the row of the triple (5 6 7)
example_row : row (record { subject = record { 0 = 5 }; predicate = record { 0 = 6 }; object = record { 0 = 7 } })
    ≡ record { var = record { 0 = 0 }; term = record { 0 = 5 } } ∷ record { var = record { 0 = 1 }; term = record { 0 = 6 } } ∷ record { var = record { 0 = 2 }; term = record { 0 = 7 } } ∷ []
example_row = refl
