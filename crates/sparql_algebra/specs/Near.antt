-- How a join finds, for a left solution, the right ones with which it may be compatible: by what both bind the columns to.
use Rattle.std.specs.Prelude.{◌≡◌, ◌++◌, Bool, cond, List, [], ◌∷◌, Contains, Option, None, Some, IsSome, is_some}
use Rattle.std.specs.List.{list_all}
use Rattle.std.specs.Option.{unwrap_or}
use Rattle.sparql_algebra.specs.declared.var.Var.{Var}
use Rattle.sparql_algebra.specs.declared.mapping.Binding.{Binding}
use Rattle.sparql_algebra.specs.Merged.{IsRising}
use Rattle.sparql_algebra.specs.Projected.{projected}
use Rattle.sparql_algebra.specs.Solutions.{solution_eq, bound}
use Rattle.sparql_algebra.specs.TermSolutions.{id_var, IdCompatible}

-- groups of rows, each under a key
abbrev pub Grouping : Type 0
Grouping = List Binding → Option (List (List Binding))

-- the group under a key, which is empty where there is none
abbrev pub group_at : Grouping → List Binding → List (List Binding)
group_at groups key = unwrap_or (groups key) []

-- after a row has joined the group under a key, that group has it too, and the others are as before
abbrev pub HasJoined : Grouping → List Binding → List Binding → Grouping → Type 0
HasJoined old key row new = (other : List Binding) → new other ≡ cond (solution_eq key other) (Some (group_at old key ++ row ∷ [])) (old other)

-- the group under a key has been taken out, and the others are as before
abbrev pub IsWithout : Grouping → List Binding → Grouping → Type 0
IsWithout old key new = (other : List Binding) → new other ≡ cond (solution_eq key other) None (old other)

-- the rows are grouped, each under its projection to the columns
pub record AreGrouped (columns : List Var) (rows : List (List Binding)) (groups : Grouping) : Type 0 where
  pub rising : (row : List Binding) → Contains rows row → IsRising id_var row
  pub found : (row : List Binding) → Contains rows row → (group : List (List Binding)) × (groups (projected columns row) ≡ Some group) × Contains group row
  pub only : (key : List Binding) (group : List (List Binding)) (row : List Binding) → groups key ≡ Some group → Contains group row → Contains rows row

-- each column is bound in each row
abbrev pub BindAll : List Var → List (List Binding) → Type 0
BindAll columns rows = (column : Var) → Contains columns column → (row : List Binding) → Contains rows row → IsSome (bound row column)

-- whether a variable is bound in each row
abbrev pub all_bound : List (List Binding) → Var → Bool
all_bound rows var = list_all (λ row. is_some (bound row var)) rows

-- some rows are of the right side, and have all of it that are compatible with a left row
pub record AreNear (right : List (List Binding)) (left : List Binding) (rows : List (List Binding)) : Type 0 where
  pub only : (row : List Binding) → Contains rows row → Contains right row
  pub all : (row : List Binding) → Contains right row → IdCompatible left row → Contains rows row
