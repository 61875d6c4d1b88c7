-- Which answer rows of numbers come to, by the terms of their numbers.
use Rattle.std.specs.Prelude.{◌≡◌, ℕ, List, [], ◌∷◌, map, filter_map, Option, None, Some, Contains, slice_get, refl}
use Rattle.std.specs.List.{AllByRecursion}
use Rattle.std.specs.Option.{IsSome, option_and_then}
use Rattle.m3_terms.specs.Order.{triple_cmp, row_cmp}
use Rattle.m3_terms.specs.Pattern.{triple_with}
use Rattle.m3_terms.specs.declared.table.TermId.{TermId}
use Rattle.m3_terms.specs.declared.term.Term.{Term}
use Rattle.m3_terms.specs.declared.term.Term.TheVariants.{Uri, Literal}
use Rattle.m3_terms.specs.declared.triple.Triple.{Triple}
use Rattle.sparql_algebra.specs.Solutions.{binding, bound, three}
use Rattle.sparql_algebra.specs.declared.mapping.Binding.{Binding}
use Rattle.sparql_algebra.specs.declared.var.Var.{Var}
use Rattle.answer_bodies.specs.declared.answer.Answer.{Answer}
use Rattle.answer_bodies.specs.declared.answer.Answer.TheVariants.{Triples, Table}
use Rattle.answer_bodies.specs.Lists.{IsOrdered}

-- the variable of this number
abbrev pub variable : ℕ → Var
variable number = record { 0 = number }

-- the term that a variable is bound to in a row, or none where it is unbound
abbrev pub term_in : (ℕ → Option Term) → List Binding → Var → Option Term
term_in terms row var = option_and_then (λ id. terms id.0) (bound row var)

-- the triple of a row: of the terms that the variables 0, 1 and 2 are bound to
abbrev pub triple_of_row : (ℕ → Option Term) → List Binding → Option Triple
triple_of_row terms row = triple_with (term_in terms row (variable 0)) (term_in terms row (variable 1)) (term_in terms row (variable 2))

-- the row of some variables: for each its term, or an unbound cell
abbrev pub row_of : (ℕ → Option Term) → List Var → List Binding → List (Option Term)
row_of terms variables row = map (term_in terms row) variables

-- a row is of three numbers, and is a triple: its numbers have terms, of which the first two are uris
pub record IsTripleRow (terms : ℕ → Option Term) (row : List Binding) : Type 0 where
  pub subject : TermId
  pub predicate : TermId
  pub object : TermId
  pub numbers : row ≡ three subject predicate object
  pub triple : IsSome (triple_of_row terms row)

-- each row is of three numbers, and is a triple
abbrev pub AreTripleRows : (ℕ → Option Term) → List (List Binding) → Type 0
AreTripleRows terms rows = AllByRecursion (IsTripleRow terms) rows

-- no row binds a variable beside these
abbrev pub AreBoundAmong : List Var → List (List Binding) → Type 0
AreBoundAmong variables rows = AllByRecursion (λ row. AllByRecursion (λ b. Contains variables b.var) row) rows

-- each number of a row has a term
abbrev pub AreNamed : (ℕ → Option Term) → List (List Binding) → Type 0
AreNamed terms rows = AllByRecursion (λ row. AllByRecursion (λ b. IsSome (terms b.term.0)) row) rows

-- the answer is the triples of the rows, in order
abbrev pub IsOfTriples : (ℕ → Option Term) → List (List Binding) → Answer → Type 0
IsOfTriples terms rows (Triples triples) = IsOrdered triple_cmp (filter_map (triple_of_row terms) rows) triples
IsOfTriples terms rows (Table columns cells) = ⊥

-- the answer is the table of these columns with the rows of these variables, in order
abbrev pub IsOfRows : (ℕ → Option Term) → List (List ℕ) → List Var → List (List Binding) → Answer → Type 0
IsOfRows terms columns variables rows (Triples triples) = ⊥
IsOfRows terms columns variables rows (Table names cells) = (names ≡ columns) × IsOrdered row_cmp (map (row_of terms variables) rows) cells

-- a table of two terms, for the examples: number 0 has the uri `a`, and number 1 the literal `b`
abbrev two_terms : ℕ → Option Term
two_terms = slice_get (Uri (97 ∷ []) ∷ Literal (98 ∷ []) ∷ [])

-- the row of the numbers 0, 0 and 1 is the triple of `a`, `a` and the literal `b`
example_triple : triple_of_row two_terms (three (record { 0 = 0 }) (record { 0 = 0 }) (record { 0 = 1 }))
    ≡ Some (record { subject = Uri (97 ∷ []); predicate = Uri (97 ∷ []); object = Literal (98 ∷ []) })
example_triple = refl

-- a row whose predicate is a literal is no triple
example_no_triple : triple_of_row two_terms (three (record { 0 = 0 }) (record { 0 = 1 }) (record { 0 = 0 })) ≡ None
example_no_triple = refl

-- the cells stand in the order of variables, of which one may stand twice, and an unbound one has an unbound cell
example_row : row_of two_terms (variable 2 ∷ variable 0 ∷ variable 1 ∷ variable 2 ∷ []) (binding 0 0 ∷ binding 2 1 ∷ [])
    ≡ Some (Literal (98 ∷ [])) ∷ Some (Uri (97 ∷ [])) ∷ None ∷ Some (Literal (98 ∷ [])) ∷ []
example_row = refl
