-- Rows that have the same cells are one row.
use Rattle.std.proofs.Common.{◌≡◌, ℕ, Bool, true, false, List, [], ◌∷◌, map, filter_map, length, Contains, nat_eq, Option, Some, None, refl, sym, ap, subst, ◌∙◌}
use Rattle.std.proofs.lemmas.Bool.{eqb-true}
use Rattle.std.proofs.lemmas.List.{length-map}
use Rattle.std.proofs.lemmas.List.Elements.{All-contains, All-from_recursion}
use Rattle.std.proofs.lemmas.Option.{same_Some}
use Rattle.std.specs.List.{AllByRecursion, IsDistinct}
use Rattle.std.specs.List.Sorted.{IsStrictlySortedBy}
use Rattle.std.specs.Option.{IsSome, option_and_then}
use Rattle.std.specs.Ordering.{eq_by_cmp}
use Rattle.m3_terms.proofs.Lists.{heads_same, tails_same}
use Rattle.m3_terms.specs.Order.{row_cmp, row_eq}
use Rattle.m3_terms.specs.OrderLaws.{row_exact, row_ties}
use Rattle.m3_terms.specs.TermTable.{NamesOnce}
use Rattle.m3_terms.specs.declared.table.TermId.{TermId}
use Rattle.m3_terms.specs.declared.term.Term.{Term}
use Rattle.sparql_algebra.proofs.SameBindings.{one_where_bound}
use Rattle.sparql_algebra.specs.Solutions.{var_cmp, solution_eq, bound, AreRising}
use Rattle.sparql_algebra.specs.SolutionLaws.{solution_exact}
use Rattle.sparql_algebra.specs.declared.mapping.Binding.{Binding}
use Rattle.sparql_algebra.specs.declared.var.Var.{Var}
use Rattle.answer_bodies.specs.OfRows.{term_in, row_of, AreBoundAmong, AreNamed}
use Rattle.answer_bodies.specs.Writing.{AreFull}
use Rattle.answer_bodies.proofs.DistinctItems.{distinct_values}
use Rattle.answer_bodies.proofs.MappedItems.{filter_map_some}

-- what is there is something
some_is : {A : Type 0} (found : Option A) → IsSome found → (x : A) × (found ≡ Some x)
some_is None is = absurd (cc)
some_is (Some x) is = (x, refl)

-- two functions that map items to the same give the same at each
same_each : {A B : Type 0} (f g : A → B) (xs : List A) → map f xs ≡ map g xs → AllByRecursion (λ x. f x ≡ g x) xs
same_each f g [] e = tt
same_each f g (x ∷ xs) e =
    (heads_same (f x) (g x) (map f xs) (map g xs) e, same_each f g xs (tails_same (f x) (g x) (map f xs) (map g xs) e))

module _ (terms : ℕ → Option Term) (variables : List Var) where
  -- a row by rising variable, which binds some variables alone, and each to a number that has a term
  record IsRow (row : List Binding) : Type 0 where
    rising : IsStrictlySortedBy var_cmp row
    among : AllByRecursion (λ b. Contains variables b.var) row
    named : AllByRecursion (λ b. IsSome (terms b.term.0)) row

  -- rows are so where each clause holds of each
  are_rows : (rows : List (List Binding)) → AreRising rows → AreBoundAmong variables rows → AreNamed terms rows → AllByRecursion IsRow rows
  are_rows [] rising among named = tt
  are_rows (row ∷ rows) rising among named =
      (record { rising = rising.0; among = among.0; named = named.0 }, are_rows rows rising.1 among.1 named.1)

  -- the variable of a binding is one of the variables, and its number has a term: one step
  known_at : (b : Binding) (bs : List Binding) (var : Var) (id : TermId) (same : Bool) → nat_eq b.var.0 var.0 ≡ same
      → Contains variables b.var → IsSome (terms b.term.0)
      → (bound bs var ≡ Some id → Contains variables var × IsSome (terms id.0))
      → bound (b ∷ bs) var ≡ Some id → Contains variables var × IsSome (terms id.0)
  known_at b bs var id true h among named rest e =
      let one = eqb-true b.var.0 var.0 h in
      let term : b.term ≡ id = same_Some b.term id (sym (rw h refl) ∙ e) in (
        subst (Contains variables) (λ i. record { 0 = one i }) among,
        subst (λ (n : TermId). IsSome (terms n.0)) term named,
      )
  known_at b bs var id false h among named rest e = rest (sym (rw h refl) ∙ e)

  -- a bound variable is one of the variables, and its number has a term
  known : (bs : List Binding) (var : Var) (id : TermId) → AllByRecursion (λ b. Contains variables b.var) bs → AllByRecursion (λ b. IsSome (terms b.term.0)) bs
      → bound bs var ≡ Some id → Contains variables var × IsSome (terms id.0)
  known [] var id among named e = absurd (cc)
  known (b ∷ bs) var id among named e =
      known_at b bs var id (nat_eq b.var.0 var.0) refl among.0 named.0 (known bs var id among.1 named.1) e

  -- a number that has a term is the one number of its term
  one_number : NamesOnce terms → (id : TermId) (other : Option TermId) → IsSome (terms id.0) → terms id.0 ≡ option_and_then (λ n. terms n.0) other → Some id ≡ other
  one_number once id None is same = let e = sym (some_is (terms id.0) is).1 ∙ same in absurd (cc)
  one_number once id (Some other) is same =
      let term = some_is (terms id.0) is in
      let e = once id.0 other.0 term.0 term.1 (sym same ∙ term.1) in
      λ i. Some (record { 0 = e i })

  -- a variable is bound to the same in two rows that have the same cells
  same_bound : NamesOnce terms → (x y : List Binding) → IsRow x → IsRow y → ((var : Var) → Contains variables var → term_in terms x var ≡ term_in terms y var)
      → (var : Var) (p q : Option TermId) → bound x var ≡ p → bound y var ≡ q → p ≡ q
  same_bound once x y r s cells var None None h k = refl
  same_bound once x y r s cells var (Some id) q h k =
      let is = known x var id r.among r.named h in
      one_number once id q is.1 (sym (ap (option_and_then (λ n. terms n.0)) h) ∙ cells var is.0 ∙ ap (option_and_then (λ n. terms n.0)) k)
  same_bound once x y r s cells var None (Some id) h k =
      let is = known y var id s.among s.named k in
      sym (one_number once id None is.1 (sym (ap (option_and_then (λ n. terms n.0)) k) ∙ sym (cells var is.0) ∙ ap (option_and_then (λ n. terms n.0)) h))

  -- two rows that have the same cells are one
  one_solution : NamesOnce terms → (x y : List Binding) (cells : List (Option Term)) → IsRow x → IsRow y → Some (row_of terms variables x) ≡ Some cells
      → Some (row_of terms variables y) ≡ Some cells → x ≡ y
  one_solution once x y cells r s h k =
      let same = same_Some (row_of terms variables x) (row_of terms variables y) (h ∙ sym k) in
      let each = All-from_recursion (λ var. term_in terms x var ≡ term_in terms y var) variables (same_each (term_in terms x) (term_in terms y) variables same) in
      one_where_bound x y r.rising s.rising
      (λ var. same_bound once x y r s (λ v. All-contains (λ w. term_in terms x w ≡ term_in terms y w) variables v each) var (bound x var) (bound y var) refl refl)

  -- the cells of distinct rows are distinct
  pub distinct_cells : NamesOnce terms → (rows : List (List Binding)) → AreRising rows → AreBoundAmong variables rows → AreNamed terms rows
      → IsDistinct solution_eq rows → IsDistinct (eq_by_cmp row_cmp) (map (row_of terms variables) rows)
  distinct_cells once rows rising among named distinct =
      subst (IsDistinct (eq_by_cmp row_cmp)) (filter_map_some (row_of terms variables) rows)
      (subst (λ e. IsDistinct e (filter_map (λ row. Some (row_of terms variables row)) rows)) (λ i a b. row_ties a b i)
      (distinct_values solution_eq row_eq IsRow (λ row. Some (row_of terms variables row)) solution_exact row_exact (one_solution once) rows
      (are_rows rows rising among named) distinct))

  -- a row has one cell for each column where there is a variable for each
  pub full_cells : (columns : List (List ℕ)) → length columns ≡ length variables → (rows : List (List Binding)) → AreFull columns (map (row_of terms variables) rows)
  full_cells columns long [] = tt
  full_cells columns long (row ∷ rows) = (length-map variables (term_in terms row) ∙ sym long, full_cells columns long rows)
