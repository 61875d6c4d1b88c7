-- What a standing query keeps over numbers is the answer over their graph, and what a step brings is how the answers differ.
use Rattle.std.proofs.Common.{◌≡◌, ◌∙◌, ℕ, ◌≤◌, List, length, map, filter_map, nat_eq, Contains, Option, slice_get, refl, sym, ap, subst, arith}
use Rattle.std.proofs.lemmas.List.Kept.{IsStrictlySortedBy-filter}
use Rattle.std.specs.List.{AllByRecursion}
use Rattle.std.specs.Option.{IsSome}
use Rattle.m3_terms.specs.InsertedLaws.{was_there}
use Rattle.m3_terms.specs.Order.{triple_cmp, row_cmp}
use Rattle.m3_terms.specs.OrderLaws.{triple_cmp_total}
use Rattle.m3_terms.specs.declared.pattern.Pattern.{Pattern}
use Rattle.m3_terms.specs.declared.term.Term.{Term}
use Rattle.m3_terms.specs.declared.triple.Triple.{Triple}
use Rattle.m3_intern.proofs.Positions.{named_once}
use Rattle.triple_index.specs.declared.triple.IdTriple.{IdTriple}
use Rattle.triple_index.specs.declared.triple.IdPattern.{IdPattern}
use Rattle.sparql_algebra.specs.Listed.{rows_of}
use Rattle.sparql_algebra.specs.RowSets.{AreExactly}
use Rattle.sparql_algebra.specs.Solutions.{RowList}
use Rattle.sparql_algebra.specs.declared.mapping.Binding.{Binding}
use Rattle.sparql_algebra.specs.declared.algebra.Query.{Query}
use Rattle.sparql_algebra.proofs.ListMembers.{all_in, sorted_one}
use Rattle.sparql_algebra.proofs.MembersDecide.{same_rows}
use Rattle.pattern_join.specs.Answers.{width, answer as answer_of}
use Rattle.pattern_join.specs.Meaning.{graph_in}
use Rattle.pattern_join.specs.Rows.{row}
use Rattle.query_eval.proofs.Counts.{mapped_from as map_from}
use Rattle.query_eval.proofs.ListsOfRows.{own_rows}
use Rattle.delta_eval.specs.Standing.{AreOf}
use Rattle.delta_eval.specs.Wanted.{IsWantedOnly, matching_rows, wanted_width, wanted_reads}
use Rattle.delta_eval.specs.declared.wanted.Wanted as kept
use Rattle.answer_bodies.specs.Differences.{is_empty_answer, without_rows}
use Rattle.answer_bodies.specs.Lists.{without}
use Rattle.answer_bodies.specs.OfRows.{triple_of_row, IsTripleRow, AreTripleRows}
use Rattle.answer_bodies.specs.declared.answer.Answer.{Answer}
use Rattle.answer_bodies.specs.declared.answer.Answer.TheVariants.{Triples, Table}
use Rattle.answer_bodies.proofs.ProjectedCells.{projected_among, projected_named}
use Rattle.session_core.specs.Answers.{fitting}
use Rattle.session_core.specs.Numbers.{Numbers, AreNumbers, pattern_in, triple_in, graph_of}
use Rattle.session_core.specs.Reads.{wanted_cost}
use Rattle.session_core.specs.Subscriptions.{answer_over, width_over}
use Rattle.session_core.specs.Watches.{asked_by, HaveNumbers, MayBeAnswered, IsAnswerOf}
use Rattle.session_core.proofs.AnswersAreMeant.{as_many_fit, reads_as_many}
use Rattle.session_core.proofs.DifferencesOfRows.{AreMeantBy, MeansTriple, fitting_meant, meant_once, reordered, triples_differ, no_triples, lines_differ, no_lines}
use Rattle.session_core.proofs.NumbersCountOnce.{mapped_from, mapped_to}
use Rattle.session_core.proofs.NumbersFollow.{graph_ordered}
use Rattle.session_core.proofs.TablesAreAnswers.{bound_among, all_named, cells_are, same_members, meant_width, meant_reads}

-- rows of triples that have meanings are rows of triples
triple_rows : (terms : List Term) (ids : List IdPattern) (triples : List IdTriple) (rows : List (List Binding))
    → ((t : IdTriple) → Contains triples t → IsSome (triple_in terms t)) → ((r : List Binding) → Contains rows r → Contains (map row triples) r)
    → AreTripleRows (slice_get terms) rows
triple_rows terms ids triples rows named among = all_in (IsTripleRow (slice_get terms)) rows (λ r c.
    let t = map_from row triples r (among r c) in
    subst (IsTripleRow (slice_get terms)) t.2 (record { subject = t.0.subject; predicate = t.0.predicate; object = t.0.object; numbers = refl; triple = named t.0 t.1 }))

module _ (numbers : Numbers) (are : AreNumbers numbers) (templates : List Pattern) where
  abbrev table : ℕ → Option Term
  table = slice_get numbers.terms

  -- the width over the numbers is that over the graph
  pub width_is : (wanted : kept.Wanted) → HaveNumbers numbers.terms templates wanted → wanted_width table wanted numbers.triples ≡ width_over (graph_of numbers) (asked_by templates wanted)
  width_is (kept.TheVariants.Templates ids) h = ap (λ ids. width ids numbers.triples) h.0 ∙ sym (as_many_fit numbers templates are)
  width_is (kept.TheVariants.Select query) h = meant_width numbers are query.pattern

  -- and no more is read than may be
  pub reads_are : (wanted : kept.Wanted) → HaveNumbers numbers.terms templates wanted → wanted_reads table wanted numbers.triples ≤ wanted_cost (graph_of numbers) (asked_by templates wanted)
  reads_are (kept.TheVariants.Templates ids) h = subst (λ ids. wanted_reads table (kept.TheVariants.Templates ids) numbers.triples ≤ wanted_cost (graph_of numbers) (asked_by templates (kept.TheVariants.Templates ids)))
      (sym h.0) (reads_as_many numbers templates are)
  reads_are (kept.TheVariants.Select query) h = let same = meant_reads numbers are query.pattern in omega (arith, same)

  -- the rows that are kept may be put into words
  pub may_be_answered : (wanted : kept.Wanted) → HaveNumbers numbers.terms templates wanted → (parts : List RowList) (answer : RowList)
      → AreOf table numbers.triples wanted parts answer → MayBeAnswered table wanted answer.rows
  may_be_answered (kept.TheVariants.Templates ids) h parts answer is =
      triple_rows numbers.terms ids (answer_of ids numbers.triples) answer.rows (λ t c. are.named t (was_there _ numbers.triples t c)) (λ r c. (is.answer_rows r).0 c)
  may_be_answered (kept.TheVariants.Select query) h parts answer is =
      (is.valid, bound_among table query (graph_in table numbers.triples) answer.rows is.answer_rows, all_named table query (graph_in table numbers.triples) answer.rows is.answer_rows)

  -- and are then the answer over the graph
  pub answer_is : (wanted : kept.Wanted) → HaveNumbers numbers.terms templates wanted → (parts : List RowList) (kept_rows : RowList)
      → AreOf table numbers.triples wanted parts kept_rows → (answer : Answer) → IsAnswerOf table wanted kept_rows.rows answer
      → answer ≡ answer_over (graph_of numbers) (asked_by templates wanted)
  answer_is (kept.TheVariants.Templates ids) h parts rows is (Triples them) of =
      let Rows = Contains (matching_rows (filter_map (pattern_in numbers.terms) templates) numbers.triples) in
      let exactly = subst (λ ids. AreExactly (Contains (matching_rows ids numbers.triples)) rows.rows) h.0 is.answer_rows in
      let given : AreMeantBy (MeansTriple numbers.terms) Rows (filter_map (triple_of_row table) rows.rows) = record {
        from = λ q c. let f = mapped_from (triple_of_row table) rows.rows q c in (f.0, (exactly f.0).0 f.1, f.2);
        to = λ r q k m. mapped_to (triple_of_row table) rows.rows r q ((exactly r).1 k) m;
      } in
      ap Triples (meant_once (MeansTriple numbers.terms) Rows triple_cmp (sorted_one triple_cmp_total) them (fitting (graph_of numbers) templates) of.rises
      (IsStrictlySortedBy-filter triple_cmp _ _ (graph_ordered numbers)) (reordered (MeansTriple numbers.terms) Rows _ them of.same given) (fitting_meant numbers are templates))
  answer_is (kept.TheVariants.Templates ids) h parts rows is (Table names lines) of = absurd of
  answer_is (kept.TheVariants.Select query) h parts rows is (Triples them) of = absurd of
  answer_is (kept.TheVariants.Select query) h parts rows is (Table names lines) of =
      let cells = cells_are table query (graph_in table numbers.triples) rows.rows is.answer_rows lines of.1 ∙ same_rows _ _ (same_members numbers are) query in
      λ i. Table (of.0 i) (cells i)

module _ (terms : List Term) (ones others : List IdTriple) (one : AreNumbers (record { terms = terms; triples = ones }))
    (other : AreNumbers (record { terms = terms; triples = others })) (templates : List Pattern) where
  abbrev named : ℕ → Option Term
  named = slice_get terms

  abbrev now : List Triple
  now = graph_of (record { terms = terms; triples = ones })

  abbrev before : List Triple
  before = graph_of (record { terms = terms; triples = others })

  -- what the answer over the one graph has and that over the other lacks
  abbrev side : kept.Wanted → Answer
  side wanted = without_rows (answer_over now (asked_by templates wanted)) (answer_over before (asked_by templates wanted))

  -- rows that are wanted over the one alone may be put into words
  pub side_may : (wanted : kept.Wanted) (parts : List RowList) (answer : RowList) → AreOf named ones wanted parts answer → (rows : List (List Binding))
      → AreExactly (IsWantedOnly named wanted ones others) rows → MayBeAnswered named wanted rows
  side_may (kept.TheVariants.Templates ids) parts answer is rows exactly =
      triple_rows terms ids (answer_of ids ones) rows (λ t c. one.named t (was_there _ ones t c)) (λ r c. ((exactly r).0 c).0)
  side_may (kept.TheVariants.Select query) parts answer is rows exactly = (
    is.valid,
    all_in (λ r. AllByRecursion (λ b. Contains query.columns b.var) r) rows
        (λ r c. let w = ((exactly r).0 c).0 in subst (λ r. AllByRecursion (λ b. Contains query.columns b.var) r) (sym w.2) (projected_among named query.columns w.0)),
    all_in (λ r. AllByRecursion (λ b. IsSome (named b.term.0)) r) rows
        (λ r c. let w = ((exactly r).0 c).0 in subst (λ r. AllByRecursion (λ b. IsSome (named b.term.0)) r) (sym w.2) (projected_named named query.columns w.0 w.1.0)),
  )

  -- the tables of both graphs
  lines_now : (query : Query) → rows_of query (graph_in named ones) ≡ rows_of query now
  lines_now query = same_rows _ _ (same_members (record { terms = terms; triples = ones }) one) query

  lines_before : (query : Query) → rows_of query (graph_in named others) ≡ rows_of query before
  lines_before query = same_rows _ _ (same_members (record { terms = terms; triples = others }) other) query

  module _ (rows : List (List Binding)) where
    -- and are then that side of the difference
    pub side_is : (wanted : kept.Wanted) → HaveNumbers terms templates wanted → (parts lists : List RowList) (own more : RowList) → AreOf named ones wanted parts own
        → AreOf named others wanted lists more → AreExactly (IsWantedOnly named wanted ones others) rows → (answer : Answer) → IsAnswerOf named wanted rows answer
        → answer ≡ side wanted
    side_is (kept.TheVariants.Templates ids) h parts lists own more a b exactly (Triples them) of =
        ap Triples (triples_differ terms ones others one other templates rows
        (subst (λ ids. AreExactly (IsWantedOnly named (kept.TheVariants.Templates ids) ones others) rows) h.0 exactly) them of)
    side_is (kept.TheVariants.Templates ids) h parts lists own more a b exactly (Table names lines) of = absurd of
    side_is (kept.TheVariants.Select query) h parts lists own more a b exactly (Triples them) of = absurd of
    side_is (kept.TheVariants.Select query) h parts lists own more a b exactly (Table names lines) of =
        let first = own_rows named (graph_in named ones) query.pattern parts a.part_rows in
        let second = own_rows named (graph_in named others) query.pattern lists b.part_rows in
        let cells = lines_differ named (named_once terms one.once) query (graph_in named ones) (graph_in named others) _ _ first second rows exactly lines of.1
        ∙ (λ i. without row_cmp (lines_now query i) (lines_before query i)) in
        λ i. Table (of.0 i) (cells i)

    -- which is empty exactly where there is no such row
    pub side_empty : (wanted : kept.Wanted) → HaveNumbers terms templates wanted → (parts lists : List RowList) (own more : RowList) → AreOf named ones wanted parts own
        → AreOf named others wanted lists more → AreExactly (IsWantedOnly named wanted ones others) rows → is_empty_answer (side wanted) ≡ nat_eq (length rows) 0
    side_empty (kept.TheVariants.Templates ids) h parts lists own more a b exactly =
        no_triples terms ones others one other templates rows (subst (λ ids. AreExactly (IsWantedOnly named (kept.TheVariants.Templates ids) ones others) rows) h.0 exactly)
    side_empty (kept.TheVariants.Select query) h parts lists own more a b exactly =
        let first = own_rows named (graph_in named ones) query.pattern parts a.part_rows in
        let second = own_rows named (graph_in named others) query.pattern lists b.part_rows in
        ap (λ lines. nat_eq (length lines) 0) (sym (λ i. without row_cmp (lines_now query i) (lines_before query i)))
        ∙ no_lines named (named_once terms one.once) query (graph_in named ones) (graph_in named others) _ _ first second rows exactly
