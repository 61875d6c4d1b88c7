-- Distinct rows that stand for solutions stand for as many distinct solutions.
use Rattle.std.proofs.Common.{◌≡◌, ◌∙◌, inl, inr, ℕ, ◌<◌, ◌≤◌, Bool, true, false, List, [], ◌∷◌, map, drop, get_or, length, Contains, Option, None, Some, refl, sym, ap, subst, arith, true≢false}
use Rattle.std.proofs.lemmas.List.{length-map}
use Rattle.std.proofs.lemmas.Map.Made.{length-le_from_is_member, is_member-Decides}
use Rattle.std.proofs.lemmas.Map.Keys.{IsDistinct-cons, IsDistinct-head, IsDistinct-tail}
use Rattle.std.specs.List.{AllByRecursion, IsDistinct, cons_option}
use Rattle.std.specs.Option.{IsSome, option_map}
use Rattle.m3_terms.specs.InsertedLaws.{cons_cases, head_in, tail_in}
use Rattle.m3_terms.specs.TermTable.{NamesOnce}
use Rattle.m3_terms.specs.declared.term.Term.{Term}
use Rattle.sparql_algebra.specs.declared.mapping.Binding.{Binding}
use Rattle.sparql_algebra.specs.RowSets.{AreMoreThan}
use Rattle.sparql_algebra.specs.SolutionLaws.{solution_exact}
use Rattle.sparql_algebra.specs.Solutions.{solution_eq}
use Rattle.sparql_algebra.specs.TermSolutions.{Solution, solution_in, HasTerms, same_solution}
use Rattle.sparql_algebra.specs.Width.{AreAll}
use Rattle.pattern_join.specs.Bgp.{StandsFor, AreSolutions}
use Rattle.sparql_algebra.proofs.ListedSolutions.{same_exact, same_equiv}

-- distinct solutions that are all among others are no more than those
no_more : (xs ys : List Solution) → IsDistinct same_solution xs → ((q : Solution) → Contains xs q → Contains ys q) → length xs ≤ length ys
no_more xs ys d f = length-le_from_is_member same_equiv xs ys d
    (λ q m. (is_member-Decides same_exact ys q).1 (f q ((is_member-Decides same_exact xs q).0 m)))

-- solutions that are not one are not equal
differ : (a b : Solution) (same : Bool) → same_solution a b ≡ same → (a ≡ b → ⊥) → same_solution a b ≡ false
differ a b true e n = absurd (n ((same_exact a b).0 e))
differ a b false e n = e

module _ {X Y : Type 0} (f : X → Y) where
  -- what is in a mapped list comes from something in the list
  pub mapped_from : (xs : List X) (y : Y) → Contains (map f xs) y → (x : X) × Contains xs x × (f x ≡ y)
  mapped_from [] y c = absurd (let below : c.0 < 0 = c.1 in omega arith)
  mapped_from (x ∷ xs) y c = elim (cons_cases (f x) (map f xs) y c) [
    | inl e ↦ (x, head_in x xs, e)
    | inr h ↦ let p = mapped_from xs y h in (p.0, tail_in x xs p.0 p.1, p.2)
  ]

  -- what comes from something in a list is in the mapped list
  pub mapped_to : (xs : List X) (x : X) → Contains xs x → Contains (map f xs) (f x)
  mapped_to [] x c = absurd (let below : c.0 < 0 = c.1 in omega arith)
  mapped_to (z ∷ xs) x c = elim (cons_cases z xs x c) [
    | inl e ↦ subst (λ w. Contains (f z ∷ map f xs) (f w)) e (head_in (f z) (map f xs))
    | inr h ↦ tail_in (f z) (map f xs) (f x) (mapped_to xs x h)
  ]

module _ (terms : ℕ → Option Term) where
  cons_at : (b : Binding) (rest : Solution) (t : Option Term) → IsSome t
      → (term : Term) × (t ≡ Some term) × (cons_option (option_map (λ term. record { var = b.var; term = term }) t) rest ≡ record { var = b.var; term = term } ∷ rest)
  cons_at b rest None h = absurd (cc)
  cons_at b rest (Some term) h = (term, refl, refl)

  -- a binding that has a term stands for one
  cons_named : (b : Binding) (bs : List Binding) → IsSome (terms b.term.0)
      → (term : Term) × (terms b.term.0 ≡ Some term) × (solution_in terms (b ∷ bs) ≡ record { var = b.var; term = term } ∷ solution_in terms bs)
  cons_named b bs h = cons_at b (solution_in terms bs) (terms b.term.0) h

  -- rows that stand for one solution are one, where each number has a term and no two numbers have one term
  pub stands_once : NamesOnce terms → (left right : List Binding) → HasTerms terms left → HasTerms terms right
      → solution_in terms left ≡ solution_in terms right → left ≡ right
  stands_once once [] [] h k e = refl
  stands_once once [] (c ∷ cs) h k e = let p = cons_named c cs k.0 in let l = ap length (e ∙ p.2) in absurd (omega (arith, l))
  stands_once once (b ∷ bs) [] h k e = let p = cons_named b bs h.0 in let l = ap length (sym p.2 ∙ e) in absurd (omega (arith, l))
  stands_once once (b ∷ bs) (c ∷ cs) h k e =
      let p = cons_named b bs h.0 in
      let q = cons_named c cs k.0 in
      let one : record { var = b.var; term = p.0 } ∷ solution_in terms bs ≡ record { var = c.var; term = q.0 } ∷ solution_in terms cs = sym p.2 ∙ e ∙ q.2 in
      let first : record { var = b.var; term = p.0 } ≡ record { var = c.var; term = q.0 } = ap (λ l. get_or l 0 (record { var = b.var; term = p.0 })) one in
      let rest = stands_once once bs cs h.1 k.1 (ap (drop 1) one) in
      let number : b.term.0 ≡ c.term.0 = once b.term.0 c.term.0 q.0 (p.1 ∙ ap (λ x. Some x.term) first) q.1 in
      let same : b ≡ c = λ i. record { var = (first i).var; term = record { 0 = number i } } in
      λ i. same i ∷ rest i

  module _ (once : NamesOnce terms) where
    apart : (row : List Binding) (rows : List (List Binding)) → HasTerms terms row → ((r : List Binding) → Contains rows r → HasTerms terms r)
        → AllByRecursion (λ r. solution_eq row r ≡ false) rows
        → AllByRecursion (λ s. same_solution (solution_in terms row) s ≡ false) (map (solution_in terms) rows)
    apart row [] h all a = tt
    apart row (r ∷ rows) h all a = (
      differ (solution_in terms row) (solution_in terms r) _ refl
          (λ e. true≢false (sym ((solution_exact row r).1 (stands_once once row r h (all r (head_in r rows)) e)) ∙ a.0)),
      apart row rows h (λ q c. all q (tail_in r rows q c)) a.1,
    )

    -- distinct rows stand for distinct solutions
    pub distinct_solutions : (rows : List (List Binding)) → ((r : List Binding) → Contains rows r → HasTerms terms r) → IsDistinct solution_eq rows
        → IsDistinct same_solution (map (solution_in terms) rows)
    unfolding IsDistinct
    distinct_solutions [] all d = tt
    distinct_solutions (r ∷ rows) all d = IsDistinct-cons same_solution (solution_in terms r) (map (solution_in terms) rows)
        (apart r rows (all r (head_in r rows)) (λ q c. all q (tail_in r rows q c)) (IsDistinct-head solution_eq r rows d))
        (distinct_solutions rows (λ q c. all q (tail_in r rows q c)) (IsDistinct-tail solution_eq r rows d))

    module _ (Holds : Solution → Type 0) (solutions : List Solution) (total : AreAll Holds solutions) where
      -- distinct rows that stand for some of the solutions are no more than these
      pub at_most : (rows : List (List Binding)) → IsDistinct solution_eq rows → ((r : List Binding) → Contains rows r → StandsFor terms Holds r)
          → length rows ≤ length solutions
      at_most rows d each =
          let few = no_more (map (solution_in terms) rows) solutions (distinct_solutions rows (λ r c. (each r c).0) d)
          (λ q c. let p = mapped_from (solution_in terms) rows q c in (total.exactly q).1 (subst Holds p.2 (each p.0 p.1).1)) in
          omega (arith, few, length-map rows (solution_in terms))

      -- distinct rows that stand for all the solutions are as many
      pub as_many : (rows : List (List Binding)) → IsDistinct solution_eq rows → AreSolutions terms Holds rows → length rows ≡ length solutions
      as_many rows d all =
          let few = at_most rows d all.each in
          let many = no_more solutions (map (solution_in terms) rows) total.distinct
          (λ q c. let p = all.all q ((total.exactly q).0 c) in subst (Contains (map (solution_in terms) rows)) p.2 (mapped_to (solution_in terms) rows p.0 p.1)) in
          omega (arith, few, many, length-map rows (solution_in terms))

      -- more than so many distinct rows stand for more than so many solutions
      pub too_many : (most : ℕ) → AreMoreThan most (StandsFor terms Holds) → most < length solutions
      too_many most m = let few = at_most m.rows m.distinct m.each in let many = m.many in omega arith
