-- Solutions on terms (SPARQL 1.1, section 18.1.8), and what a solution by numbers of terms stands for.
use Rattle.std.specs.Prelude.{◌≡◌, ℕ, Bool, List, [], ◌∷◌, Option, Some, None, IsSome, nat_eq, if◌then◌else◌, refl}
use Rattle.std.specs.Option.{option_map}
use Rattle.std.specs.List.{filter_map, AllByRecursion}
use Rattle.std.specs.Cmp.Lexicographic.{pointwise}
use Rattle.std.specs.Ordering.{on, eq_of_both}
use Rattle.m3_terms.specs.Order.{term_eq}
use Rattle.m3_terms.specs.declared.term.Term.{Term}
use Rattle.m3_terms.specs.declared.term.Term.TheVariants.{Uri}
use Rattle.sparql_algebra.specs.declared.var.Var.{Var}
use Rattle.sparql_algebra.specs.declared.mapping.Binding.{Binding}
use Rattle.sparql_algebra.specs.Merged.{IsRising, lookup, AreCompatible, merged}
use Rattle.sparql_algebra.specs.Solutions.{binding}

-- a variable and the term that it is bound to
pub record TermBinding : Type 0 where
  pub var : Var
  pub term : Term

-- a solution: bindings, which are to rise by variable
abbrev pub Solution : Type 0
Solution = List TermBinding

-- the number of a binding's variable
abbrev pub term_var : TermBinding → ℕ
term_var b = b.var.0

-- the number of the variable of a binding to a number
abbrev pub id_var : Binding → ℕ
id_var b = b.var.0

-- the variables of a solution rise
abbrev pub IsOrdered : Solution → Type 0
IsOrdered = IsRising term_var

-- the term that a variable is bound to, or none where it is unbound
abbrev pub term_at : Solution → Var → Option Term
term_at solution var = option_map (λ b. b.term) (lookup term_var solution var.0)

-- two solutions agree on each variable that both bind
abbrev pub Compatible : Solution → Solution → Type 0
Compatible = AreCompatible term_var

-- two compatible solutions as one
abbrev pub merge : Solution → Solution → Solution
merge = merged term_var

-- two solutions by numbers agree on each variable that both bind
abbrev pub IdCompatible : List Binding → List Binding → Type 0
IdCompatible = AreCompatible id_var

-- two compatible solutions by numbers as one
abbrev pub id_merge : List Binding → List Binding → List Binding
id_merge = merged id_var

-- two solutions have the same bindings
abbrev pub same_solution : Solution → Solution → Bool
same_solution = pointwise (eq_of_both (on term_var nat_eq) (on (λ b. b.term) term_eq))

-- this variable is bound to this term
abbrev pub bind : ℕ → Term → TermBinding
bind var term = record { var = record { 0 = var }; term = term }

-- what a binding to a number stands for in a table of terms: none where the number has no term
abbrev pub named : (ℕ → Option Term) → Binding → Option TermBinding
named terms b = option_map (λ term. record { var = b.var; term = term }) (terms b.term.0)

-- the solution that a solution by numbers stands for in a table of terms
abbrev pub solution_in : (ℕ → Option Term) → List Binding → Solution
solution_in terms solution = filter_map (named terms) solution

-- each number of a solution has a term in the table
abbrev pub HasTerms : (ℕ → Option Term) → List Binding → Type 0
HasTerms terms solution = AllByRecursion (λ b. IsSome (terms b.term.0)) solution

-- in a table of one term, a binding to it is named, and one to another number is dropped
example_named : solution_in (λ n. if nat_eq n 7 then Some (Uri (97 ∷ [])) else None) (binding 0 7 ∷ binding 2 9 ∷ []) ≡ bind 0 (Uri (97 ∷ [])) ∷ []
example_named = refl
