-- The rows of numbers that answer a query over the numbers of a graph give the table that the query asks for.
use Rattle.std.proofs.Common.{◌≡◌, ◌∙◌, ℕ, ◌+◌, ◌≤◌, List, map, Contains, Option, Result, Ok, Err, IfOk, IfErr, OnOk, slice_get, sym, ap, subst}
use Rattle.std.proofs.lemmas.List.Sorted.{Contains-permutation, IsPermutation-sym}
use Rattle.std.specs.List.{AllByRecursion}
use Rattle.std.specs.Option.{IsSome, option_map_or}
use Rattle.m3_terms.specs.Order.{row_cmp}
use Rattle.m3_terms.specs.declared.memory.NoMemory.{NoMemory}
use Rattle.m3_terms.specs.declared.term.Term.{Term}
use Rattle.m3_terms.specs.declared.triple.Triple.{Triple}
use Rattle.m3_intern.proofs.Positions.{named_once}
use Rattle.triple_index.specs.declared.triple.IdTriple.{IdTriple}
use Rattle.sparql_algebra.specs.Solutions.{RowList}
use Rattle.sparql_algebra.specs.Answers.{cells, IsAnswer}
use Rattle.sparql_algebra.specs.Listed.{rows_of, width_of}
use Rattle.sparql_algebra.specs.TermSolutions.{solution_in}
use Rattle.sparql_algebra.specs.declared.algebra.Algebra.{Algebra}
use Rattle.sparql_algebra.specs.declared.algebra.Query.{Query}
use Rattle.sparql_algebra.specs.declared.mapping.Binding.{Binding}
use Rattle.sparql_algebra.proofs.ListMembers.{all_in}
use Rattle.sparql_algebra.proofs.ListedAnswers.{answer_exact}
use Rattle.sparql_algebra.proofs.MembersDecide.{HaveSame, same_width, same_rows}
use Rattle.pattern_join.specs.Answers.{IsOverwide}
use Rattle.pattern_join.specs.Meaning.{graph_in}
use Rattle.pattern_join.specs.declared.fault.EvalFault.{EvalFault}
use Rattle.pattern_join.proofs.SumsDecideScans.{HaveSameSums, summed}
use Rattle.query_eval.specs.Answered.{AreAnswer}
use Rattle.query_eval.specs.Reads.{reads}
use Rattle.query_eval.proofs.Counts.{mapped_from as map_from, mapped_to as map_to}
use Rattle.query_eval.proofs.SumsDecideReads.{same_reads}
use Rattle.answer_bodies.specs.Lists.{IsOrdered}
use Rattle.answer_bodies.specs.OfRows.{row_of, AreBoundAmong, AreNamed, IsOfRows}
use Rattle.answer_bodies.specs.Writing.{IsFull}
use Rattle.answer_bodies.specs.declared.answer.Answer.{Answer}
use Rattle.answer_bodies.specs.declared.answer.Answer.TheVariants.{Triples, Table}
use Rattle.answer_bodies.proofs.ProjectedCells.{projected_cells, projected_among, projected_named}
use Rattle.session_core.specs.Answers.{column_names}
use Rattle.session_core.specs.Numbers.{Numbers, AreNumbers, triple_in, graph_of}
use Rattle.session_core.specs.Prepared.{AreRows, IsTable}
use Rattle.session_core.proofs.NumbersCountOnce.{mapped_from, mapped_to}
use Rattle.session_core.proofs.NumbersFit.{weighed}
use Rattle.session_core.proofs.NumbersFollow.{graph_from, graph_has}

module _ (terms : ℕ → Option Term) (query : Query) (graph : List Triple) (rows : List (List Binding)) (are : AreAnswer terms query graph rows) where
  -- the rows bind columns alone
  pub bound_among : AreBoundAmong query.columns rows
  bound_among = all_in (λ row. AllByRecursion (λ b. Contains query.columns b.var) row) rows (λ row c.
      let p = are.each row c in
      subst (λ r. AllByRecursion (λ b. Contains query.columns b.var) r) (sym p.2) (projected_among terms query.columns p.0))

  -- and each of their numbers has a term
  pub all_named : AreNamed terms rows
  all_named = all_in (λ row. AllByRecursion (λ b. IsSome (terms b.term.0)) row) rows (λ row c.
      let p = are.each row c in
      subst (λ r. AllByRecursion (λ b. IsSome (terms b.term.0)) r) (sym p.2) (projected_named terms query.columns p.0 p.1.0))

  -- their cells in order answer the query
  cells_answer : (lines : List (List (Option Term))) → IsOrdered row_cmp (map (row_of terms query.columns) rows) lines → IsAnswer query graph lines
  cells_answer lines is =
      let given = map (row_of terms query.columns) rows in
      record {
        ordered = is.rises;
        exactly = λ line. (
          λ c.
              let from = map_from (row_of terms query.columns) rows line
              (Contains-permutation lines given line (IsPermutation-sym given lines is.same) c) in
              let p = are.each from.0 from.1 in (
                solution_in terms p.0,
                p.1.1,
                sym from.2 ∙ ap (row_of terms query.columns) p.2 ∙ projected_cells terms query.columns p.0 p.1.0,
              ),
          λ h.
              let into = are.all h.0 h.1 in
              let same = projected_cells terms query.columns into.full into.has_terms ∙ ap (cells query.columns) into.stands ∙ sym h.2 in
              Contains-permutation given lines line is.same (subst (Contains given) same (map_to (row_of terms query.columns) rows _ into.there)),
        );
      }

  -- so they are those of the answer
  pub cells_are : (lines : List (List (Option Term))) → IsOrdered row_cmp (map (row_of terms query.columns) rows) lines → lines ≡ rows_of query graph
  cells_are lines is = (answer_exact query graph lines).0 (cells_answer lines is)

module _ (numbers : Numbers) (are : AreNumbers numbers) where
  -- what the numbers mean, in their order
  abbrev pub meant : List Triple
  meant = graph_in (slice_get numbers.terms) numbers.triples

  -- they mean the triples of the graph
  pub same_members : HaveSame meant (graph_of numbers)
  same_members q = (
    λ c. let t = mapped_from (triple_in numbers.terms) numbers.triples q c in graph_has numbers t.0 q t.1 t.2,
    λ c. let t = graph_from numbers q c in mapped_to (triple_in numbers.terms) numbers.triples t.0 q t.1 t.2,
  )

  -- each of them once
  same_sums : HaveSameSums meant (graph_of numbers)
  unfolding graph_of
  same_sums f =
      summed f (triple_in numbers.terms) numbers.triples
      ∙ sym (weighed numbers.terms (named_once numbers.terms are.once) numbers.triples are.ordered are.named f
      (λ t. option_map_or f (triple_in numbers.terms t) 0) (λ t q e. ap (λ found. option_map_or f found 0) e))

  -- so a pattern has the same width over both
  pub meant_width : (pattern : Algebra) → width_of pattern meant ≡ width_of pattern (graph_of numbers)
  meant_width pattern = same_width meant (graph_of numbers) same_members pattern

  -- and is read for as many triples
  pub meant_reads : (pattern : Algebra) → reads pattern meant ≡ reads pattern (graph_of numbers)
  meant_reads pattern = same_reads meant (graph_of numbers) same_sums pattern

  module _ (query : Query) where
    -- the rows that answer a query over a view of the numbers are its rows
    pub rows_found : (view : List IdTriple) (r : Result RowList EvalFault) → view ≡ numbers.triples
        → IfOk r (λ list. AreAnswer (slice_get numbers.terms) query (graph_in (slice_get numbers.terms) view) list.rows)
        → OnOk r (width_of query.pattern (graph_in (slice_get numbers.terms) view) ≤ 65536) → IfOk r (λ list. AreRows numbers query list.rows)
    rows_found view (Ok list) v answer narrow = record {
      answer = subst (λ triples. AreAnswer (slice_get numbers.terms) query (graph_in (slice_get numbers.terms) triples) list.rows) v answer;
      narrow = subst (λ width. width ≤ 65536)
          (ap (λ triples. width_of query.pattern (graph_in (slice_get numbers.terms) triples)) v ∙ meant_width query.pattern) narrow;
    }
    rows_found view (Err fault) v answer narrow = tt

    -- where its width is over the limit, so is that over the graph
    pub rows_wide : (view : List IdTriple) (r : Result RowList EvalFault) → view ≡ numbers.triples
        → IfErr r (IsOverwide (width_of query.pattern (graph_in (slice_get numbers.terms) view))) → IfErr r (IsOverwide (width_of query.pattern (graph_of numbers)))
    rows_wide view r v wide = subst (λ width. IfErr r (IsOverwide width))
        (ap (λ triples. width_of query.pattern (graph_in (slice_get numbers.terms) triples)) v ∙ meant_width query.pattern) wide

    -- no more is read than the query may
    pub rows_read : (view : List IdTriple) (before now : ℕ) → view ≡ numbers.triples
        → now ≤ before + reads query.pattern (graph_in (slice_get numbers.terms) view) → now ≤ before + reads query.pattern (graph_of numbers)
    rows_read view before now v few = subst (λ count. now ≤ before + count)
        (ap (λ triples. reads query.pattern (graph_in (slice_get numbers.terms) triples)) v ∙ meant_reads query.pattern) few

    -- the table of the rows is the answer to the query
    is_table : (rows : List (List Binding)) (columns : List (List ℕ)) (answer : Answer) → AreRows numbers query rows → columns ≡ column_names query
        → IsOfRows (slice_get numbers.terms) columns query.columns rows answer → IsFull answer → IsTable (graph_of numbers) query answer
    is_table rows columns (Triples triples) found named is full = absurd is
    is_table rows columns (Table names lines) found named is full =
        let heads : names ≡ column_names query = is.0 ∙ named in
        let cells = cells_are (slice_get numbers.terms) query meant rows found.answer lines is.1 ∙ same_rows meant (graph_of numbers) same_members query in
        record { is = λ i. Table (heads i) (cells i); narrow = found.narrow; full = full }

    -- so is what comes of them, if memory is found
    pub table_made : (rows : List (List Binding)) (columns : List (List ℕ)) (r : Result Answer NoMemory) → AreRows numbers query rows → columns ≡ column_names query
        → IfOk r (IsOfRows (slice_get numbers.terms) columns query.columns rows) → IfOk r IsFull → IfOk r (IsTable (graph_of numbers) query)
    table_made rows columns (Ok answer) found named is full = is_table rows columns answer found named is full
    table_made rows columns (Err refused) found named is full = tt
