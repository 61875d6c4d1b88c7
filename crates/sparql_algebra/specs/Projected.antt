-- The projection of a solution by numbers to columns (SPARQL 1.1, section 18.5, Project): the variables keep their numbers.
use Rattle.std.specs.Prelude.{◌≡◌, Bool, List, [], ◌∷◌, filter, nat_eq, refl}
use Rattle.std.specs.List.{list_any}
use Rattle.sparql_algebra.specs.declared.var.Var.{Var}
use Rattle.sparql_algebra.specs.declared.mapping.Binding.{Binding}
use Rattle.sparql_algebra.specs.Solutions.{binding}

-- a variable is a column
abbrev pub is_column : List Var → Var → Bool
is_column columns var = list_any (λ column. nat_eq column.0 var.0) columns

-- the bindings of a row whose variables are columns
abbrev pub projected : List Var → List Binding → List Binding
projected columns row = filter (λ b. is_column columns b.var) row

-- the projection to the variables 2 and 1 keeps the order of variables
example_projected : projected (record { 0 = 2 } ∷ record { 0 = 1 } ∷ []) (binding 0 7 ∷ binding 1 8 ∷ binding 2 9 ∷ []) ≡ binding 1 8 ∷ binding 2 9 ∷ []
example_projected = refl
