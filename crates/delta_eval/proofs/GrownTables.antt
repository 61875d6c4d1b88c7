-- Rows mean the same by a table that has all terms of another, where they are meant by that.
use Rattle.std.proofs.Common.{◌≡◌, ◌∙◌, ℕ, List, [], ◌∷◌, Option, None, Some, IsSome, refl, sym, subst}
use Rattle.std.specs.List.{cons_option}
use Rattle.std.specs.Option.{option_map}
use Rattle.m3_terms.specs.InsertedLaws.{head_in, tail_in}
use Rattle.m3_terms.specs.Pattern.{triple_with}
use Rattle.m3_terms.specs.declared.term.Term.{Term}
use Rattle.m3_terms.specs.declared.term.Term.TheVariants.{Uri, Literal}
use Rattle.m3_terms.specs.declared.triple.Triple.{Triple}
use Rattle.sparql_algebra.specs.declared.algebra.Algebra.{Algebra}
use Rattle.sparql_algebra.specs.declared.algebra.Query.{Query}
use Rattle.sparql_algebra.specs.declared.mapping.Binding.{Binding}
use Rattle.sparql_algebra.specs.Evaluation.{IsSolution}
use Rattle.sparql_algebra.specs.Solutions.{RowList}
use Rattle.sparql_algebra.specs.TermSolutions.{Solution, solution_in, HasTerms}
use Rattle.triple_index.specs.declared.triple.IdTriple.{IdTriple}
use Rattle.pattern_join.specs.Bgp.{StandsFor}
use Rattle.pattern_join.specs.Meaning.{triple_in, graph_in, AreMeant}
use Rattle.query_eval.specs.Answered.{AreAnswer}
use Rattle.query_eval.specs.PartRows.{AreRowsOf}
use Rattle.delta_eval.specs.Laws.{HasAllOf}

-- three numbers that mean a triple have terms
three_meant : (s p o : Option Term) → IsSome (triple_with s p o) → IsSome s × IsSome p × IsSome o
three_meant None p o h = absurd (cc)
three_meant (Some (Literal text)) p o h = absurd (cc)
three_meant (Some (Uri text)) None o h = absurd (cc)
three_meant (Some (Uri text)) (Some (Literal other)) o h = absurd (cc)
three_meant (Some (Uri text)) (Some (Uri other)) None h = absurd (cc)
three_meant (Some (Uri text)) (Some (Uri other)) (Some term) h = (refl, refl, refl)

module _ (old new : ℕ → Option Term) (grown : HasAllOf old new) where
  same_at : (n : ℕ) (t : Option Term) → old n ≡ t → IsSome t → old n ≡ new n
  same_at n None e h = absurd (cc)
  same_at n (Some term) e h = e ∙ sym (grown n term e)

  -- a number that has a term keeps it
  same_term : (n : ℕ) → IsSome (old n) → old n ≡ new n
  same_term n h = same_at n (old n) refl h

  same_triple : (t : IdTriple) → IsSome (triple_in old t) → triple_in old t ≡ triple_in new t
  same_triple t h =
      let p = three_meant (old t.subject.0) (old t.predicate.0) (old t.object.0) h in
      let s = same_term t.subject.0 p.0 in
      let q = same_term t.predicate.0 p.1 in
      let o = same_term t.object.0 p.2 in
      λ i. triple_with (s i) (q i) (o i)

  -- triples that are meant mean the same graph
  pub same_graph : (triples : List IdTriple) → AreMeant old triples → graph_in old triples ≡ graph_in new triples
  same_graph [] meant = refl
  same_graph (t ∷ ts) meant =
      let first = same_triple t (meant t (head_in t ts)) in
      let rest = same_graph ts (λ q c. meant q (tail_in t ts q c)) in
      λ i. cons_option (first i) (rest i)

  -- a row that has terms has them still
  pub still_has : (row : List Binding) → HasTerms old row → HasTerms new row
  still_has [] h = tt
  still_has (b ∷ bs) h = (subst IsSome (same_term b.term.0 h.0) h.0, still_has bs h.1)

  -- and stands for the same solution
  pub same_solution : (row : List Binding) → HasTerms old row → solution_in old row ≡ solution_in new row
  same_solution [] h = refl
  same_solution (b ∷ bs) h =
      let first = same_term b.term.0 h.0 in
      let rest = same_solution bs h.1 in
      λ i. cons_option (option_map (λ term. record { var = b.var; term = term }) (first i)) (rest i)

  still_stands : (Holds : Solution → Type 0) (row : List Binding) → StandsFor old Holds row → StandsFor new Holds row
  still_stands Holds row h = (still_has row h.0, subst Holds (same_solution row h.0) h.1)

  -- rows of a pattern are rows of it still
  pub rows_grown : (graph : List Triple) (pattern : Algebra) (list : RowList) → AreRowsOf old graph pattern list → AreRowsOf new graph pattern list
  rows_grown graph pattern list r = record {
    solutions = record {
      each = λ row c. still_stands (IsSolution pattern graph) row (r.solutions.each row c);
      all = λ s h. (let p = r.solutions.all s h in (p.0, p.1, sym (same_solution p.0 (r.solutions.each p.0 p.1).0) ∙ p.2));
    };
    rising = r.rising;
  }

  -- and answers to a query answer it still
  pub answer_grown : (graph : List Triple) (query : Query) (rows : List (List Binding)) → AreAnswer old query graph rows → AreAnswer new query graph rows
  answer_grown graph query rows a = record {
    each = λ row c. (let p = a.each row c in (p.0, still_stands (IsSolution query.pattern graph) p.0 p.1, p.2));
    all = λ s h.
        let p = a.all s h in
        record { full = p.full; has_terms = still_has p.full p.has_terms; stands = sym (same_solution p.full p.has_terms) ∙ p.stands; there = p.there };
  }
