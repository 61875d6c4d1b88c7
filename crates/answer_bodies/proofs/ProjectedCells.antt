-- The row of a projected solution by numbers has the cells of the solution that it stands for.
use Rattle.std.proofs.Common.{◌≡◌, ◌∙◌, ℕ, true, cond, List, [], ◌∷◌, map, Contains, nat_eq, Option, None, refl, sym, ap}
use Rattle.std.proofs.lemmas.Bool.{eq-eqb}
use Rattle.std.specs.List.{AllByRecursion}
use Rattle.std.specs.Option.{IsSome, option_map, option_and_then}
use Rattle.m3_terms.specs.InsertedLaws.{head_in, tail_in}
use Rattle.m3_terms.specs.declared.term.Term.{Term}
use Rattle.sparql_algebra.specs.declared.mapping.Binding.{Binding}
use Rattle.sparql_algebra.specs.declared.var.Var.{Var}
use Rattle.sparql_algebra.specs.Answers.{cells}
use Rattle.sparql_algebra.specs.Merged.{lookup}
use Rattle.sparql_algebra.specs.Projected.{is_column, projected}
use Rattle.sparql_algebra.specs.TermSolutions.{id_var, term_at, solution_in, HasTerms}
use Rattle.sparql_algebra.proofs.Grouping.{lookup_projected, is_among}
use Rattle.sparql_algebra.proofs.ListMembers.{kept, any_to, all_in, in_all_of}
use Rattle.sparql_algebra.proofs.Naming.{term_at_has}
use Rattle.answer_bodies.specs.OfRows.{term_in, row_of}

module _ (terms : ℕ → Option Term) (columns : List Var) (full : List Binding) where
  -- a column has the same term in both
  cell : HasTerms terms full → (var : Var) → Contains columns var → term_in terms (projected columns full) var ≡ term_at (solution_in terms full) var
  cell has var c =
      let here : is_column columns var ≡ true = any_to (λ column. nat_eq column.0 var.0) columns var c (eq-eqb var.0 var.0 refl) in
      ap (λ found. option_and_then (λ id. terms id.0) (option_map (λ b. b.term) found))
      (lookup_projected columns full var.0 ∙ ap (λ b. cond b (lookup id_var full var.0) None) here)
      ∙ sym (term_at_has terms full var has)

  each_cell : HasTerms terms full → (some : List Var) → ((var : Var) → Contains some var → Contains columns var)
      → map (term_in terms (projected columns full)) some ≡ map (term_at (solution_in terms full)) some
  each_cell has [] among = refl
  each_cell has (var ∷ some) among =
      let first = cell has var (among var (head_in var some)) in
      let rest = each_cell has some (λ other c. among other (tail_in var some other c)) in
      λ i. first i ∷ rest i

  pub projected_cells : HasTerms terms full → row_of terms columns (projected columns full) ≡ cells columns (solution_in terms full)
  projected_cells has = each_cell has columns (λ var c. c)

  -- it binds columns alone
  pub projected_among : AllByRecursion (λ b. Contains columns b.var) (projected columns full)
  projected_among = all_in (λ b. Contains columns b.var) (projected columns full)
      (λ b c. is_among columns b.var ((kept (λ (b : Binding). is_column columns b.var) full b).0 c).1)

  -- and each of its numbers has a term
  pub projected_named : HasTerms terms full → AllByRecursion (λ b. IsSome (terms b.term.0)) (projected columns full)
  projected_named has = all_in (λ b. IsSome (terms b.term.0)) (projected columns full)
      (λ b c. in_all_of (λ (b : Binding). IsSome (terms b.term.0)) full b has ((kept (λ (b : Binding). is_column columns b.var) full b).0 c).0)
