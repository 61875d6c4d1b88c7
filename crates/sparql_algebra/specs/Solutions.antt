-- Solutions by numbers of terms (SPARQL 1.1, section 18.1.8): which variables are bound, each to a number.
use Rattle.std.specs.Prelude.{◌≡◌, ◌≢◌, ◌↔◌, Contains, ℕ, Bool, List, [], ◌∷◌, find, Option, Some, None, nat_eq, refl}
use Rattle.std.specs.List.{AllByRecursion}
use Rattle.std.specs.List.Sorted.{IsStrictlySortedBy}
use Rattle.std.specs.Option.{option_map}
use Rattle.std.specs.Cmp.Lexicographic.{pointwise}
use Rattle.std.specs.Ordering.{nat_cmp, on, eq_of_both}
use Rattle.std.specs.declared.cmp.Ordering.{Ordering}
use Rattle.m3_terms.specs.Inserted.{inserted}
use Rattle.m3_terms.specs.declared.table.TermId.{TermId}
use Rattle.sparql_algebra.specs.declared.var.Var.{Var}
use Rattle.sparql_algebra.specs.declared.mapping.Binding.{Binding}

-- what contracts see of a list of rows: the rows, and how many more fit without memory
pub record RowList : Type 0 where
  pub rows : List (List Binding)
  pub room : ℕ

-- bindings are ordered by their variables
abbrev pub var_cmp : Binding → Binding → Ordering
var_cmp = on (λ b. b.var.0) nat_cmp

-- two bindings have the same variable and the same number
abbrev pub binding_eq : Binding → Binding → Bool
binding_eq = eq_of_both (on (λ b. b.var.0) nat_eq) (on (λ b. b.term.0) nat_eq)

-- two solutions have the same bindings
abbrev pub solution_eq : List Binding → List Binding → Bool
solution_eq = pointwise binding_eq

-- this variable is bound to this number
abbrev pub binding : ℕ → ℕ → Binding
binding var term = record { var = record { 0 = var }; term = record { 0 = term } }

-- what a variable is bound to in a solution, if it is bound
abbrev pub bound : List Binding → Var → Option TermId
bound solution var = option_map (λ b. b.term) (find (λ b. nat_eq b.var.0 var.0) solution)

-- a solution in which a variable is bound too
abbrev pub with_binding : List Binding → Var → TermId → List Binding
with_binding solution var term = inserted var_cmp (record { var = var; term = term }) solution

-- the bindings of each solution stand by rising variable
abbrev pub AreRising : List (List Binding) → Type 0
AreRising solutions = AllByRecursion (IsStrictlySortedBy var_cmp) solutions

-- the row of three numbers: the variables 0, 1 and 2 are bound to them
abbrev pub three : TermId → TermId → TermId → List Binding
three subject predicate object =
    record { var = record { 0 = 0 }; term = subject } ∷ record { var = record { 0 = 1 }; term = predicate } ∷ record { var = record { 0 = 2 }; term = object } ∷ []

-- a row has been taken out: the rows are the others
abbrev pub IsWithoutRow : List (List Binding) → List Binding → List (List Binding) → Type 0
IsWithoutRow old row new = (other : List Binding) → Contains new other ↔ (Contains old other × (row ≢ other))

-- variable 1 comes between variables 0 and 2
example_between : with_binding (binding 0 7 ∷ binding 2 9 ∷ []) (record { 0 = 1 }) (record { 0 = 8 }) ≡ binding 0 7 ∷ binding 1 8 ∷ binding 2 9 ∷ []
example_between = refl

-- variable 2 is bound to 9, and variable 1 is unbound
example_bound : bound (binding 0 7 ∷ binding 2 9 ∷ []) (record { 0 = 2 }) ≡ Some (record { 0 = 9 })
example_bound = refl

-- a variable that does not occur is unbound
example_unbound : bound (binding 0 7 ∷ binding 2 9 ∷ []) (record { 0 = 1 }) ≡ None
example_unbound = refl
