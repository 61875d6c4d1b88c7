-- The rows of numbers that are wanted over one graph and not over another give what the one answer has and the other lacks.
use Rattle.std.proofs.Common.{◌≡◌, ◌∙◌, ◌↔◌, ℕ, Bool, true, false, not, List, [], ◌∷◌, length, map, filter_map, nat_eq, Contains, Option, Some, slice_get, refl, sym, ap, subst, arith}
use Rattle.std.proofs.lemmas.Bool.{ne_eqb}
use Rattle.std.proofs.lemmas.List.Kept.{IsStrictlySortedBy-filter}
use Rattle.std.proofs.lemmas.List.Sorted.{Contains-permutation, IsPermutation-sym}
use Rattle.std.proofs.lemmas.Map.Keys.{IsDistinct-cons, IsDistinct-head}
use Rattle.std.specs.List.{AllByRecursion, IsDistinct}
use Rattle.std.specs.List.Sorted.{IsPermutation, IsStrictlySortedBy}
use Rattle.std.specs.Option.{IsSome}
use Rattle.std.specs.Ordering.{eq_by_cmp}
use Rattle.std.specs.declared.cmp.Ordering.{Ordering}
use mathlib.Core.Bool.{true≢false}
use Rattle.m3_terms.specs.InsertedLaws.{head_in}
use Rattle.m3_terms.specs.Order.{triple_cmp, row_cmp}
use Rattle.m3_terms.specs.OrderLaws.{triple_cmp_total, triple_ties, triple_exact, row_cmp_total, row_ties, row_exact}
use Rattle.m3_terms.specs.TermTable.{NamesOnce}
use Rattle.m3_terms.specs.declared.pattern.Pattern.{Pattern}
use Rattle.m3_terms.specs.declared.term.Term.{Term}
use Rattle.m3_terms.specs.declared.triple.Triple.{Triple}
use Rattle.m3_intern.proofs.Positions.{named_once}
use Rattle.triple_index.specs.declared.triple.IdTriple.{IdTriple}
use Rattle.triple_index.specs.declared.triple.IdPattern.{IdPattern}
use Rattle.sparql_algebra.specs.Answers.{cells}
use Rattle.sparql_algebra.specs.Evaluation.{IsSolution}
use Rattle.sparql_algebra.specs.Listed.{rows_of}
use Rattle.sparql_algebra.specs.Projected.{is_column, projected}
use Rattle.sparql_algebra.specs.RowSets.{AreExactly, IsProjectedRow}
use Rattle.sparql_algebra.specs.SolutionLaws.{solution_exact}
use Rattle.sparql_algebra.specs.Solutions.{RowList, solution_eq, var_cmp}
use Rattle.sparql_algebra.specs.TermSolutions.{solution_in}
use Rattle.sparql_algebra.specs.declared.algebra.Query.{Query}
use Rattle.sparql_algebra.specs.declared.mapping.Binding.{Binding}
use Rattle.sparql_algebra.specs.declared.var.Var.{Var}
use Rattle.sparql_algebra.proofs.Gathered.{none_in}
use Rattle.sparql_algebra.proofs.ListMembers.{kept, any_from, any_to, in_all_of, sorted_one}
use Rattle.sparql_algebra.proofs.ListedAnswers.{answer_exact}
use Rattle.pattern_join.specs.Bgp.{StandsFor}
use Rattle.pattern_join.specs.Rows.{row}
use Rattle.query_eval.proofs.Counts.{stands_once, mapped_from as map_from, mapped_to as map_to}
use Rattle.query_eval.specs.PartRows.{AreRowsOf}
use Rattle.delta_eval.specs.Wanted.{matching_rows}
use Rattle.answer_bodies.specs.Lists.{IsOrdered, is_among, without}
use Rattle.answer_bodies.specs.OfRows.{triple_of_row, row_of}
use Rattle.answer_bodies.proofs.ProjectedCells.{projected_cells, projected_among, projected_named}
use Rattle.answer_bodies.proofs.RowCells.{distinct_cells}
use Rattle.session_core.specs.Answers.{fitting}
use Rattle.session_core.specs.Numbers.{Numbers, AreNumbers, triple_in, pattern_in, graph_of}
use Rattle.session_core.proofs.AnswersAreMeant.{from_found, to_found, found_there}
use Rattle.session_core.proofs.NumbersCountOnce.{mapped_from, mapped_to}
use Rattle.session_core.proofs.NumbersFollow.{graph_ordered, meant}
use Rattle.session_core.proofs.NumbersMeanTerms.{means_one}

-- items in order are those that some rows mean
pub record AreMeantBy {X : Type 0} (Means : List Binding → X → Type 0) (Rows : List Binding → Type 0) (items : List X) : Type 0 where
  pub from : (x : X) → Contains items x → (r : List Binding) × Rows r × Means r x
  pub to : (r : List Binding) (x : X) → Rows r → Means r x → Contains items x

-- a list with a head is not empty
pub not_empty : {X : Type 0} (x : X) (xs : List X) → nat_eq (length (x ∷ xs)) 0 ≡ false
not_empty x xs = ne_eqb (length (x ∷ xs)) 0 (λ e. absurd (omega (arith, e)))

-- ---- items of any kind

module _ {X : Type 0} (Means : List Binding → X → Type 0) (One Other : List Binding → Type 0) (ones others : List X)
    (one : AreMeantBy Means One ones) (other : AreMeantBy Means Other others)
    (alone : (r s : List Binding) (x : X) → One r → Other s → Means r x → Means s x → r ≡ s)
    (R : X → X → Ordering) (exact : (a b : X) → (eq_by_cmp R a b ≡ true) ↔ (a ≡ b)) where
  lacks : (x : X) (b : Bool) → is_among R others x ≡ b → (Contains others x → ⊥) → not b ≡ true
  lacks x true h none =
      let found = any_from (eq_by_cmp R x) others h in
      absurd (none (subst (Contains others) (sym ((exact x found.0).0 found.2)) found.1))
  lacks x false h none = refl

  lacking : (x : X) → not (is_among R others x) ≡ true → Contains others x → ⊥
  lacking x h c = true≢false (sym h ∙ ap not (any_to (eq_by_cmp R x) others x c ((exact x x).1 refl)))

  -- what the one list has and the other lacks is what is meant by rows of the one kind and not of the other
  pub rest_is : AreMeantBy Means (λ r. One r × (Other r → ⊥)) (without R ones others)
  rest_is = record {
    from = λ x c.
        let k = (kept (λ item. not (is_among R others item)) ones x).0 c in
        let f = one.from x k.0 in
        (f.0, (f.1, λ o. lacking x k.1 (other.to f.0 x o f.2)), f.2);
    to = λ r x h m.
        (kept (λ item. not (is_among R others item)) ones x).1 (
          one.to r x h.0 m,
          lacks x (is_among R others x) refl (λ c.
              let f = other.from x c in
              h.1 (subst Other (sym (alone r f.0 x h.0 f.1 m f.2)) f.1)),
        );
  }

  -- there is none exactly where there is no such row
  pub none_left : (rows : List (List Binding)) → ((r : List Binding) → Contains rows r ↔ (One r × (Other r → ⊥)))
      → ((r : List Binding) → One r → (x : X) × Means r x) → nat_eq (length (without R ones others)) 0 ≡ nat_eq (length rows) 0
  none_left rows are means = at rows (without R ones others) are rest_is
    where
      at : (rows : List (List Binding)) (rest : List X) → ((r : List Binding) → Contains rows r ↔ (One r × (Other r → ⊥)))
          → AreMeantBy Means (λ r. One r × (Other r → ⊥)) rest → nat_eq (length rest) 0 ≡ nat_eq (length rows) 0
      at [] [] are is = refl
      at [] (x ∷ rest) are is = let f = is.from x (head_in x rest) in absurd (none_in f.0 ((are f.0).1 f.1))
      at (r ∷ rows) [] are is = let h = (are r).0 (head_in r rows) in let m = means r h.0 in absurd (none_in m.0 (is.to r m.0 h m.1))
      at (r ∷ rows) (x ∷ rest) are is = not_empty x rest ∙ sym (not_empty r rows)

-- two lists in order that the same rows mean are one
pub meant_once : {X : Type 0} (Means : List Binding → X → Type 0) (Rows : List Binding → Type 0) (R : X → X → Ordering)
    → ((xs ys : List X) → IsStrictlySortedBy R xs → IsStrictlySortedBy R ys → ((q : X) → Contains xs q ↔ Contains ys q) → xs ≡ ys)
    → (xs ys : List X) → IsStrictlySortedBy R xs → IsStrictlySortedBy R ys → AreMeantBy Means Rows xs → AreMeantBy Means Rows ys → xs ≡ ys
meant_once Means Rows R same xs ys s t a b = same xs ys s t (λ q. (
  λ c. let f = a.from q c in b.to f.0 q f.1 f.2,
  λ c. let f = b.from q c in a.to f.0 q f.1 f.2,
))

-- the same items in order
pub reordered : {X : Type 0} (Means : List Binding → X → Type 0) (Rows : List Binding → Type 0) (given ordered : List X)
    → IsPermutation given ordered → AreMeantBy Means Rows given → AreMeantBy Means Rows ordered
reordered Means Rows given ordered p are = record {
  from = λ x c. are.from x (Contains-permutation ordered given x (IsPermutation-sym given ordered p) c);
  to = λ r x h m. Contains-permutation given ordered x p (are.to r x h m);
}

triples_exact : (s t : Triple) → (eq_by_cmp triple_cmp s t ≡ true) ↔ (s ≡ t)
triples_exact s t = (λ e. (triple_exact s t).0 (triple_ties s t ∙ e), λ e. sym (triple_ties s t) ∙ (triple_exact s t).1 e)

rows_exact : (a b : List (Option Term)) → (eq_by_cmp row_cmp a b ≡ true) ↔ (a ≡ b)
rows_exact a b = (λ e. (row_exact a b).0 (row_ties a b ∙ e), λ e. sym (row_ties a b) ∙ (row_exact a b).1 e)

-- ---- triples that fit templates

-- a row means this triple
abbrev pub MeansTriple : List Term → List Binding → Triple → Type 0
MeansTriple terms r q = triple_of_row (slice_get terms) r ≡ Some q

module _ (numbers : Numbers) (are : AreNumbers numbers) (templates : List Pattern) where
  abbrev pub template_ids : List IdPattern
  template_ids = filter_map (pattern_in numbers.terms) templates

  -- the rows of what fits mean what fits
  pub fitting_meant : AreMeantBy (MeansTriple numbers.terms) (Contains (matching_rows template_ids numbers.triples)) (fitting (graph_of numbers) templates)
  fitting_meant = record {
    from = λ q c.
        let t = mapped_from (triple_in numbers.terms) _ q (to_found numbers templates are q c) in
        (row t.0, map_to row _ t.0 t.1, t.2);
    to = λ r q h m.
        let t = map_from row _ r h in
        from_found numbers templates are q (mapped_to (triple_in numbers.terms) _ t.0 q t.1 (subst (λ r. MeansTriple numbers.terms r q) (sym t.2) m));
  }

  -- each means one
  pub fitting_means : (r : List Binding) → Contains (matching_rows template_ids numbers.triples) r → (q : Triple) × MeansTriple numbers.terms r q
  fitting_means r h =
      let t = map_from row _ r h in
      let m = meant numbers.terms t.0 (are.named t.0 (found_there numbers templates are t.0 t.1)) in
      (m.0, subst (λ r. MeansTriple numbers.terms r m.0) t.2 m.1)

-- rows of triples that mean one triple are one
triples_alone : (terms : List Term) → NamesOnce (slice_get terms) → (ids : List IdPattern) (ones others : List IdTriple) (r s : List Binding) (q : Triple)
    → Contains (matching_rows ids ones) r → Contains (matching_rows ids others) s → MeansTriple terms r q → MeansTriple terms s q → r ≡ s
triples_alone terms once ids ones others r s q h k m n =
    let t = map_from row _ r h in
    let u = map_from row _ s k in
    sym t.2 ∙ ap row (means_one terms once t.0 u.0 q (subst (λ r. MeansTriple terms r q) (sym t.2) m) (subst (λ r. MeansTriple terms r q) (sym u.2) n)) ∙ u.2

module _ (terms : List Term) (ones others : List IdTriple) (one : AreNumbers (record { terms = terms; triples = ones }))
    (other : AreNumbers (record { terms = terms; triples = others })) (templates : List Pattern) where
  abbrev fits_now : List Triple
  fits_now = fitting (graph_of (record { terms = terms; triples = ones })) templates

  abbrev fitted : List Triple
  fitted = fitting (graph_of (record { terms = terms; triples = others })) templates

  abbrev ids : List IdPattern
  ids = filter_map (pattern_in terms) templates

  abbrev IsOne : List Binding → Type 0
  IsOne r = Contains (matching_rows ids ones) r

  abbrev IsOther : List Binding → Type 0
  IsOther r = Contains (matching_rows ids others) r

  once : NamesOnce (slice_get terms)
  once = named_once terms one.once

  -- the triples of the rows that are of the one graph alone are what fits there alone
  pub triples_differ : (rows : List (List Binding)) → AreExactly (λ r. IsOne r × (IsOther r → ⊥)) rows → (them : List Triple)
      → IsOrdered triple_cmp (filter_map (triple_of_row (slice_get terms)) rows) them → them ≡ without triple_cmp fits_now fitted
  triples_differ rows exactly them is =
      let Means = MeansTriple terms in
      let given : AreMeantBy Means (λ r. IsOne r × (IsOther r → ⊥)) (filter_map (triple_of_row (slice_get terms)) rows) = record {
        from = λ q c. let f = mapped_from (triple_of_row (slice_get terms)) rows q c in (f.0, (exactly f.0).0 f.1, f.2);
        to = λ r q h m. mapped_to (triple_of_row (slice_get terms)) rows r q ((exactly r).1 h) m;
      } in
      meant_once Means (λ r. IsOne r × (IsOther r → ⊥)) triple_cmp (sorted_one triple_cmp_total) them (without triple_cmp fits_now fitted) is.rises
      (IsStrictlySortedBy-filter triple_cmp _ fits_now (IsStrictlySortedBy-filter triple_cmp _ _ (graph_ordered (record { terms = terms; triples = ones }))))
      (reordered Means (λ r. IsOne r × (IsOther r → ⊥)) _ them is.same given)
      (rest_is Means IsOne IsOther fits_now fitted (fitting_meant (record { terms = terms; triples = ones }) one templates)
      (fitting_meant (record { terms = terms; triples = others }) other templates) (triples_alone terms once ids ones others) triple_cmp triples_exact)

  -- and there are none exactly where there is no such row
  pub no_triples : (rows : List (List Binding)) → AreExactly (λ r. IsOne r × (IsOther r → ⊥)) rows
      → nat_eq (length (without triple_cmp fits_now fitted)) 0 ≡ nat_eq (length rows) 0
  no_triples rows exactly =
      none_left (MeansTriple terms) IsOne IsOther fits_now fitted (fitting_meant (record { terms = terms; triples = ones }) one templates)
      (fitting_meant (record { terms = terms; triples = others }) other templates) (triples_alone terms once ids ones others) triple_cmp triples_exact
      rows exactly (fitting_means (record { terms = terms; triples = ones }) one templates)

-- ---- rows of a query

-- a row means these cells
abbrev pub MeansCells : (ℕ → Option Term) → List Var → List Binding → List (Option Term) → Type 0
MeansCells terms columns r line = row_of terms columns r ≡ line

module _ (terms : ℕ → Option Term) (once : NamesOnce terms) (query : Query) where
  -- a row answers the query over a graph
  abbrev pub IsRow : List Triple → List Binding → Type 0
  IsRow graph r = IsProjectedRow query.columns (StandsFor terms (IsSolution query.pattern graph)) r

  row_rises : (graph : List Triple) (list : RowList) → AreRowsOf terms graph query.pattern list → (r : List Binding) → IsRow graph r → IsStrictlySortedBy var_cmp r
  row_rises graph list are r h =
      let w = are.solutions.all (solution_in terms h.0) h.1.1 in
      let same : w.0 ≡ h.0 = stands_once terms once w.0 h.0 (are.solutions.each w.0 w.1).0 h.1.0 w.2 in
      let rising = subst (IsStrictlySortedBy var_cmp) same (in_all_of (IsStrictlySortedBy var_cmp) list.rows w.0 are.rising w.1) in
      subst (IsStrictlySortedBy var_cmp) (sym h.2) (IsStrictlySortedBy-filter var_cmp (λ b. is_column query.columns b.var) h.0 rising)

  row_among : (graph : List Triple) (r : List Binding) → IsRow graph r → AllByRecursion (λ b. Contains query.columns b.var) r
  row_among graph r h = subst (λ r. AllByRecursion (λ b. Contains query.columns b.var) r) (sym h.2) (projected_among terms query.columns h.0)

  row_named : (graph : List Triple) (r : List Binding) → IsRow graph r → AllByRecursion (λ b. IsSome (terms b.term.0)) r
  row_named graph r h = subst (λ r. AllByRecursion (λ b. IsSome (terms b.term.0)) r) (sym h.2) (projected_named terms query.columns h.0 h.1.0)

  -- two rows that have one line are one
  cells_alone : (ones others : List Triple) (list more : RowList) → AreRowsOf terms ones query.pattern list → AreRowsOf terms others query.pattern more
      → (r s : List Binding) (line : List (Option Term)) → IsRow ones r → IsRow others s → MeansCells terms query.columns r line → MeansCells terms query.columns s line → r ≡ s
  unfolding IsDistinct
  cells_alone ones others list more a b r s line h k m n = at (solution_eq r s) refl
    where
      at : (same : Bool) → solution_eq r s ≡ same → r ≡ s
      at true e = (solution_exact r s).0 e
      at false e =
          let d : IsDistinct solution_eq (r ∷ s ∷ []) = IsDistinct-cons solution_eq r (s ∷ []) (e, tt) (IsDistinct-cons solution_eq s [] tt tt) in
          let apart = distinct_cells terms query.columns once (r ∷ s ∷ []) (row_rises ones list a r h, (row_rises others more b s k, tt))
          (row_among ones r h, (row_among others s k, tt)) (row_named ones r h, (row_named others s k, tt)) d in
          let head = IsDistinct-head (eq_by_cmp row_cmp) (row_of terms query.columns r) (row_of terms query.columns s ∷ []) apart in
          absurd (true≢false (sym ((rows_exact (row_of terms query.columns r) (row_of terms query.columns s)).1 (m ∙ sym n)) ∙ head.0))

  -- the rows of the answer are what the rows of numbers mean
  pub answer_meant : (graph : List Triple) (list : RowList) → AreRowsOf terms graph query.pattern list
      → AreMeantBy (MeansCells terms query.columns) (IsRow graph) (rows_of query graph)
  answer_meant graph list are =
      let answer = (answer_exact query graph (rows_of query graph)).1 refl in
      record {
        from = λ line c.
            let p = (answer.exactly line).0 c in
            let w = are.solutions.all p.0 p.1 in
            let stands = are.solutions.each w.0 w.1 in
            (projected query.columns w.0, (w.0, stands, refl), projected_cells terms query.columns w.0 stands.0 ∙ ap (cells query.columns) w.2 ∙ sym p.2);
        to = λ r line h m.
            (answer.exactly line).1 (
              solution_in terms h.0,
              h.1.1,
              sym m ∙ ap (row_of terms query.columns) h.2 ∙ projected_cells terms query.columns h.0 h.1.0,
            );
      }

  module _ (ones others : List Triple) (list more : RowList) (a : AreRowsOf terms ones query.pattern list) (b : AreRowsOf terms others query.pattern more) where
    -- the lines of the rows that are of the one graph alone are what the answer has there alone
    pub lines_differ : (rows : List (List Binding)) → AreExactly (λ r. IsRow ones r × (IsRow others r → ⊥)) rows → (lines : List (List (Option Term)))
        → IsOrdered row_cmp (map (row_of terms query.columns) rows) lines → lines ≡ without row_cmp (rows_of query ones) (rows_of query others)
    lines_differ rows exactly lines is =
        let Means = MeansCells terms query.columns in
        let given : AreMeantBy Means (λ r. IsRow ones r × (IsRow others r → ⊥)) (map (row_of terms query.columns) rows) = record {
          from = λ line c. let f = map_from (row_of terms query.columns) rows line c in (f.0, (exactly f.0).0 f.1, f.2);
          to = λ r line h m. subst (Contains (map (row_of terms query.columns) rows)) m (map_to (row_of terms query.columns) rows r ((exactly r).1 h));
        } in
        meant_once Means (λ r. IsRow ones r × (IsRow others r → ⊥)) row_cmp (sorted_one row_cmp_total) lines (without row_cmp (rows_of query ones) (rows_of query others)) is.rises
        (IsStrictlySortedBy-filter row_cmp _ (rows_of query ones) ((answer_exact query ones (rows_of query ones)).1 refl).ordered)
        (reordered Means (λ r. IsRow ones r × (IsRow others r → ⊥)) _ lines is.same given)
        (rest_is Means (IsRow ones) (IsRow others) (rows_of query ones) (rows_of query others) (answer_meant ones list a) (answer_meant others more b)
        (cells_alone ones others list more a b) row_cmp rows_exact)

    -- and there are none exactly where there is no such row
    pub no_lines : (rows : List (List Binding)) → AreExactly (λ r. IsRow ones r × (IsRow others r → ⊥)) rows
        → nat_eq (length (without row_cmp (rows_of query ones) (rows_of query others))) 0 ≡ nat_eq (length rows) 0
    no_lines rows exactly =
        none_left (MeansCells terms query.columns) (IsRow ones) (IsRow others) (rows_of query ones) (rows_of query others) (answer_meant ones list a) (answer_meant others more b)
        (cells_alone ones others list more a b) row_cmp rows_exact rows exactly (λ r h. (row_of terms query.columns r, refl))
