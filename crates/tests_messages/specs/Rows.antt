-- The terms and the rows of the tests of answers of rows.
use Rattle.std.specs.Prelude.{ℕ, List, [], ◌∷◌}
use Rattle.m3_terms.specs.declared.table.TermId.{TermId}
use Rattle.m3_terms.specs.declared.term.Term.{Term}
use Rattle.m3_terms.specs.declared.term.Term.TheVariants.{Uri, Literal}
use Rattle.sparql_algebra.specs.Solutions.{binding, three}
use Rattle.sparql_algebra.specs.declared.mapping.Binding.{Binding}
use Rattle.sparql_algebra.specs.declared.var.Var.{Var}

-- under the numbers 0 to 3: the uris `b`, `a` and `p`, and the literal `x`
abbrev pub four_terms : List Term
four_terms = Uri (98 ∷ []) ∷ Uri (97 ∷ []) ∷ Uri (112 ∷ []) ∷ Literal (120 ∷ []) ∷ []

-- the number of a term
abbrev pub id : ℕ → TermId
id number = record { 0 = number }

-- rows of three numbers: `b p "x"`, `a p "x"` and `a p b`
abbrev pub triple_rows : List (List Binding)
triple_rows = three (id 0) (id 2) (id 3) ∷ three (id 1) (id 2) (id 3) ∷ three (id 1) (id 2) (id 0) ∷ []

-- the variables 1, 0 and 1
abbrev pub variables : List Var
variables = record { 0 = 1 } ∷ record { 0 = 0 } ∷ record { 0 = 1 } ∷ []

-- rows of the variables 0 and 1: the literal `x` and `b`, `b` and `a`, and `a` where variable 1 is unbound
abbrev pub pair_rows : List (List Binding)
pair_rows = (binding 0 3 ∷ binding 1 0 ∷ []) ∷ (binding 0 0 ∷ binding 1 1 ∷ []) ∷ (binding 0 1 ∷ []) ∷ []
