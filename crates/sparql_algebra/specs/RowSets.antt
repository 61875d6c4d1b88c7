-- Lists of distinct solutions by numbers as sets: what they hold, and when there are too many.
use Rattle.std.specs.Prelude.{◌≡◌, ◌⊎◌, ◌↔◌, ◌<◌, ℕ, Bool, List, Contains, length, Option, MatchBool, MatchOption, ⊤}
use Rattle.std.specs.List.{IsDistinct}
use Rattle.m3_terms.specs.declared.term.Term.{Term}
use Rattle.sparql_algebra.specs.declared.var.Var.{Var}
use Rattle.sparql_algebra.specs.declared.expr.Expr.{Expr}
use Rattle.sparql_algebra.specs.declared.expr.Truth.TheVariants.{True}
use Rattle.sparql_algebra.specs.declared.gather.RowsFault.{RowsFault}
use Rattle.sparql_algebra.specs.declared.gather.RowsFault.TheVariants.{TooMany, NoMemory}
use Rattle.sparql_algebra.specs.declared.mapping.Binding.{Binding}
use Rattle.sparql_algebra.specs.Solutions.{solution_eq}
use Rattle.sparql_algebra.specs.Merged.{IsAlone}
use Rattle.sparql_algebra.specs.TermSolutions.{solution_in, id_var, IdCompatible, id_merge}
use Rattle.sparql_algebra.specs.Projected.{projected}
use Rattle.sparql_algebra.specs.Truth.{truth}
use Rattle.sparql_algebra.specs.Evaluation.{Passes}

-- the rows are exactly those of which a property holds
abbrev pub AreExactly : (List Binding → Type 0) → List (List Binding) → Type 0
AreExactly Holds rows = (row : List Binding) → Contains rows row ↔ Holds row

-- more than so many distinct rows have a property
pub record AreMoreThan (most : ℕ) (Holds : List Binding → Type 0) : Type 0 where
  pub rows : List (List Binding)
  pub distinct : IsDistinct solution_eq rows
  pub each : (row : List Binding) → Contains rows row → Holds row
  pub many : most < length rows

-- why the rows that have a property are not given: there are more than so many, or memory ran out
abbrev pub WhyNone : ℕ → (List Binding → Type 0) → RowsFault → Type 0
WhyNone most Holds TooMany = AreMoreThan most Holds
WhyNone most Holds NoMemory = ⊤

-- a row is of one list or of the other
abbrev pub IsOfEither : List (List Binding) → List (List Binding) → List Binding → Type 0
IsOfEither left right row = Contains left row ⊎ Contains right row

-- a row is of the list or is this one
abbrev pub IsOfOr : List (List Binding) → List Binding → List Binding → Type 0
IsOfOr rows one row = Contains rows row ⊎ (one ≡ row)

-- a condition that there may be is true for the solution that a row stands for in a table
abbrev pub RowPasses : (ℕ → Option Term) → Option Expr → List Binding → Type 0
RowPasses terms condition row = Passes condition (solution_in terms row)

-- a row is one of some rows on which a condition is true
abbrev pub IsFiltered : (ℕ → Option Term) → Expr → (List Binding → Type 0) → List Binding → Type 0
IsFiltered terms condition Rows row = Rows row × (truth condition (solution_in terms row) ≡ True)

-- a row is the projection of one of some rows
abbrev pub IsProjectedRow : List Var → (List Binding → Type 0) → List Binding → Type 0
IsProjectedRow columns Rows row = (full : List Binding) × Rows full × (row ≡ projected columns full)

-- a row is the merge of this left one with some compatible right one, and passes
pub record IsPassingWith (left : List Binding) (Right Passing : List Binding → Type 0) (row : List Binding) : Type 0 where
  pub right : List Binding
  pub in_right : Right right
  pub compatible : IdCompatible left right
  pub merges : row ≡ id_merge left right
  pub passes : Passing row

-- a row is of the list or is such a merge
abbrev pub IsOfOrPassing : List (List Binding) → List Binding → (List Binding → Type 0) → (List Binding → Type 0) → List Binding → Type 0
IsOfOrPassing rows left Right Passing row = Contains rows row ⊎ IsPassingWith left Right Passing row

-- whether there is such a merge
abbrev pub TellsPassing : Bool → List Binding → (List Binding → Type 0) → (List Binding → Type 0) → Type 0
TellsPassing found left Right Passing = MatchBool found ((row : List Binding) × IsPassingWith left Right Passing row) (IsAlone id_var Right Passing left)

-- a row is of the list, or is such a merge, or is the left one for which there is none
abbrev pub IsOfOrLeft : List (List Binding) → List Binding → (List Binding → Type 0) → (List Binding → Type 0) → List Binding → Type 0
IsOfOrLeft rows left Right Passing row =
    Contains rows row ⊎ (IsPassingWith left Right Passing row ⊎ ((left ≡ row) × IsAlone id_var Right Passing left))

-- the merge of this left row and this right one passes, if there is a merge; otherwise they have none that passes
abbrev pub IsPassingMerge : List Binding → List Binding → (List Binding → Type 0) → Option (List Binding) → Type 0
IsPassingMerge left right Passing merge = MatchOption merge
    (IdCompatible left right → Passing (id_merge left right) → ⊥)
    (λ row. IdCompatible left right × (row ≡ id_merge left right) × Passing row)
