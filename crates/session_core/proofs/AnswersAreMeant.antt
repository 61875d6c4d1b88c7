-- The triples of numbers that fit templates mean the answer to the templates.
use Rattle.std.proofs.Common.{◌≡◌, ℕ, ◌+◌, ◌≤◌, true, List, [], ◌∷◌, length, map, filter, filter_map, Contains, Result, Ok, Err, IfOk, IfErr, Option, Some, IsSome, slice_get, refl, sym, ap, subst, ◌∙◌, inr, arith}
use Rattle.std.proofs.lemmas.List.Elements.{All-contains, filter_passes}
use Rattle.std.proofs.lemmas.List.Kept.{IsStrictlySortedBy-filter}
use Rattle.std.proofs.lemmas.List.Sorted.{Contains-permutation, IsPermutation-sym}
use Rattle.std.specs.List.{cons_option}
use Rattle.std.specs.List.Sorted.{IsPermutation, IsStrictlySortedBy}
use Rattle.std.specs.Option.{option_map_or}
use mathlib.Core.Logic.{⊎_elim}
use Rattle.m3_terms.specs.InsertedLaws.{head_in, tail_in, was_there, is_kept}
use Rattle.m3_terms.specs.Order.{text_of, triple_cmp}
use Rattle.m3_terms.specs.OrderLaws.{triple_cmp_total}
use Rattle.m3_terms.specs.declared.memory.NoMemory.{NoMemory}
use Rattle.m3_terms.specs.declared.term.Term.{Term}
use Rattle.m3_terms.specs.declared.triple.Triple.{Triple}
use Rattle.m3_terms.specs.declared.pattern.Pattern.{Pattern}
use Rattle.m3_intern.proofs.Positions.{named_once}
use Rattle.triple_index.specs.Changes.{AreOrdered}
use Rattle.triple_index.specs.Fits.{fits as fits_ids}
use Rattle.triple_index.specs.Graphs.{fits_one, with_all, count_fitting}
use Rattle.triple_index.specs.GraphLaws.{none_in, sorted_same, with_all_has, with_all_ordered}
use Rattle.triple_index.specs.IdOrder.{id_triple_cmp}
use Rattle.triple_index.specs.declared.triple.IdTriple.{IdTriple}
use Rattle.triple_index.specs.declared.triple.IdPattern.{IdPattern}
use Rattle.pattern_join.specs.Answers.{answer, width, IsOverwide}
use Rattle.pattern_join.specs.declared.fault.EvalFault.{EvalFault}
use Rattle.pattern_join.specs.Rows.{row}
use Rattle.sparql_algebra.specs.declared.mapping.Binding.{Binding}
use Rattle.answer_bodies.specs.OfRows.{triple_of_row, AreTripleRows, IsOfTriples}
use Rattle.answer_bodies.specs.declared.answer.Answer.{Answer}
use Rattle.answer_bodies.specs.declared.answer.Answer.TheVariants.{Triples, Table}
use Rattle.answer_bodies.proofs.RowTriples.{triple_terms}
use Rattle.session_core.specs.Answers.{fitting, bytes_of_triple, text_bytes}
use Rattle.session_core.specs.Graph.{fits}
use Rattle.session_core.specs.Numbers.{Numbers, AreNumbers, triple_in, triples_in, pattern_in, graph_of, bytes_of_ids, bytes_in}
use Rattle.session_core.specs.Prepared.{AreMatching, IsMeant}
use Rattle.session_core.proofs.Fitting.{triple_one}
use Rattle.session_core.proofs.NumbersCountOnce.{nil_ordered, mapped_from, mapped_to}
use Rattle.session_core.proofs.NumbersFit.{same_fits_one, weighed, counted, fit_no_more}
use Rattle.session_core.proofs.NumbersFollow.{graph_ordered, graph_from, graph_has}

-- rows of triples are of the triples that they mean
rows_mean : (terms : List Term) (triples : List IdTriple) → filter_map (triple_of_row (slice_get terms)) (map row triples) ≡ triples_in terms triples
rows_mean terms [] = refl
rows_mean terms (t ∷ ts) = ap (cons_option (triple_in terms t)) (rows_mean terms ts)

-- and each is the row of a triple where each means one
pub triple_rows : (terms : List Term) (triples : List IdTriple) → ((t : IdTriple) → Contains triples t → IsSome (triple_in terms t))
    → AreTripleRows (slice_get terms) (map row triples)
triple_rows terms [] named = tt
triple_rows terms (t ∷ ts) named = (
  record { subject = t.subject; predicate = t.predicate; object = t.object; numbers = refl; triple = named t (head_in t ts) },
  triple_rows terms ts (λ u c. named u (tail_in t ts u c)),
)

-- an answer of rows of triples is what the triples mean, in order
pub answer_meant : (terms : List Term) (triples : List IdTriple) (reply : Answer) → IsOfTriples (slice_get terms) (map row triples) reply → IsMeant terms triples reply
answer_meant terms triples (Triples them) is = record {
  meant = them;
  is = refl;
  rises = is.rises;
  same = subst (λ given. IsPermutation given them) (rows_mean terms triples) is.same;
}
answer_meant terms triples (Table columns rows) is = elim is [ ]

-- so is what comes of them, if memory is found
pub answers_meant : (terms : List Term) (triples : List IdTriple) (rows : List (List Binding)) (r : Result Answer NoMemory) → rows ≡ map row triples
    → IfOk r (IsOfTriples (slice_get terms) rows) → IfOk r (IsMeant terms triples)
answers_meant terms triples rows (Ok reply) e is = answer_meant terms triples reply (subst (λ l. IsOfTriples (slice_get terms) l reply) e is)
answers_meant terms triples rows (Err refused) e is = tt

-- a triple of numbers has as many bytes of texts as the triple that it means
meant_bytes : (terms : List Term) (t : IdTriple) (q : Triple) → triple_in terms t ≡ Some q → bytes_of_ids terms t ≡ bytes_of_triple q
meant_bytes terms t q h =
    let m = triple_terms _ _ _ q h in
    let size = λ (found : Option Term). option_map_or (λ term. length (text_of term)) found 0 in
    omega (arith, ap size m.0, ap size m.1, ap size m.2)

module _ (numbers : Numbers) (templates : List Pattern) (are : AreNumbers numbers) where
  abbrev pub ids : List IdPattern
  ids = filter_map (pattern_in numbers.terms) templates

  abbrev pub found : List IdTriple
  found = filter (fits_one fits_ids ids) numbers.triples

  -- as many triples of numbers fit as triples of the graph
  pub as_many_fit : length (fitting (graph_of numbers) templates) ≡ length found
  unfolding graph_of
  as_many_fit = counted numbers.terms (named_once numbers.terms are.once) numbers.triples are.ordered are.named
      (fits_one fits_ids ids) (fits_one fits templates) (λ t q k. same_fits_one numbers.terms (named_once numbers.terms are.once) templates t q k)

  -- and no more rows are read than the query may
  pub reads_as_many : count_fitting fits_ids numbers.triples ids ≤ count_fitting fits (graph_of numbers) templates
  unfolding graph_of
  reads_as_many = fit_no_more numbers.terms (named_once numbers.terms are.once) numbers.triples are.ordered are.named templates

  found_ordered : AreOrdered found
  found_ordered = IsStrictlySortedBy-filter id_triple_cmp (fits_one fits_ids ids) numbers.triples are.ordered

  found_fits : (t : IdTriple) → Contains found t → fits_one fits_ids ids t ≡ true
  found_fits t c = All-contains (λ x. fits_one fits_ids ids x ≡ true) found t (filter_passes (fits_one fits_ids ids) numbers.triples) c

  -- what they mean is what fits
  pub from_found : (q : Triple) → Contains (triples_in numbers.terms found) q → Contains (fitting (graph_of numbers) templates) q
  from_found q c =
      let t = mapped_from (triple_in numbers.terms) found q c in
      let there = was_there (fits_one fits_ids ids) numbers.triples t.0 t.1 in
      is_kept (fits_one fits templates) (graph_of numbers) q
      (sym (same_fits_one numbers.terms (named_once numbers.terms are.once) templates t.0 q t.2) ∙ found_fits t.0 t.1)
      (graph_has numbers t.0 q there t.2)

  pub to_found : (q : Triple) → Contains (fitting (graph_of numbers) templates) q → Contains (triples_in numbers.terms found) q
  to_found q c =
      let t = graph_from numbers q (was_there (fits_one fits templates) (graph_of numbers) q c) in
      let passes : fits_one fits templates q ≡ true =
      All-contains (λ x. fits_one fits templates x ≡ true) (fitting (graph_of numbers) templates) q (filter_passes (fits_one fits templates) (graph_of numbers)) c in
      mapped_to (triple_in numbers.terms) found t.0 q
      (is_kept (fits_one fits_ids ids) numbers.triples t.0 (same_fits_one numbers.terms (named_once numbers.terms are.once) templates t.0 q t.2 ∙ passes) t.1) t.2

  -- in order it is the answer
  meant_is : (them : List Triple) → IsStrictlySortedBy triple_cmp them → IsPermutation (triples_in numbers.terms found) them → them ≡ fitting (graph_of numbers) templates
  meant_is them rises same = sorted_same triple_cmp_total them (fitting (graph_of numbers) templates) rises
      (IsStrictlySortedBy-filter triple_cmp (fits_one fits templates) (graph_of numbers) (graph_ordered numbers))
      (λ q c. from_found q (Contains-permutation them (triples_in numbers.terms found) q (IsPermutation-sym (triples_in numbers.terms found) them same) c))
      (λ q c. Contains-permutation (triples_in numbers.terms found) them q same (to_found q c))

  pub found_there : (t : IdTriple) → Contains found t → Contains numbers.triples t
  found_there t c = was_there (fits_one fits_ids ids) numbers.triples t c

  -- put in order they are it
  found_meant : with_all triple_cmp [] (triples_in numbers.terms found) ≡ fitting (graph_of numbers) templates
  found_meant =
      let has = λ (q : Triple). with_all_has triple_cmp_total triple_one [] (triples_in numbers.terms found) q in
      sorted_same triple_cmp_total (with_all triple_cmp [] (triples_in numbers.terms found)) (fitting (graph_of numbers) templates)
      (with_all_ordered triple_cmp_total triple_one [] (triples_in numbers.terms found) (nil_ordered triple_cmp))
      (IsStrictlySortedBy-filter triple_cmp (fits_one fits templates) (graph_of numbers) (graph_ordered numbers))
      (λ q c. from_found q (⊎_elim (λ none. absurd (none_in q none)) (λ d. d) ((has q).0 c)))
      (λ q c. (has q).1 (inr (to_found q c)))

  -- so their texts have as many bytes
  found_bytes : bytes_in numbers.terms found ≡ text_bytes (fitting (graph_of numbers) templates)
  found_bytes =
      sym (weighed numbers.terms (named_once numbers.terms are.once) found found_ordered (λ t c. are.named t (found_there t c))
      bytes_of_triple (bytes_of_ids numbers.terms) (meant_bytes numbers.terms))
      ∙ ap text_bytes found_meant

  -- so triples that are those that fit are matching
  matching : (triples : List IdTriple) → triples ≡ found → length triples ≤ 65536 → AreMatching numbers templates triples
  matching triples e few = record {
    ordered = subst AreOrdered (sym e) found_ordered;
    there = λ t c. found_there t (subst (λ l. Contains l t) e c);
    few = omega (arith, as_many_fit, ap length e, few);
    answers = λ reply is. is.is ∙ ap Triples (meant_is is.meant is.rises (subst (λ l. IsPermutation (triples_in numbers.terms l) is.meant) e is.same));
    bytes = ap (bytes_in numbers.terms) e ∙ found_bytes;
  }

  -- what a view gives for the templates by numbers are the triples that fit
  pub matched : (view : List IdTriple) (given : List IdPattern) (r : Result (List IdTriple) EvalFault) → given ≡ ids → view ≡ numbers.triples
      → IfOk r (λ triples. triples ≡ answer given view) → IfOk r (λ triples. length triples ≤ 65536) → IfOk r (AreMatching numbers templates)
  matched view given (Ok triples) g v is few = matching triples (is ∙ (λ i. answer (g i) (v i))) few
  matched view given (Err fault) g v is few = tt

  -- and where these are too many, so is the answer
  pub matched_wide : (view : List IdTriple) (given : List IdPattern) (r : Result (List IdTriple) EvalFault) → given ≡ ids → view ≡ numbers.triples
      → IfErr r (IsOverwide (width given view)) → IfErr r (IsOverwide (length (fitting (graph_of numbers) templates)))
  matched_wide view given r g v wide =
      let same : width given view ≡ length (fitting (graph_of numbers) templates) = (λ i. width (g i) (v i)) ∙ sym as_many_fit in
      subst (λ n. IfErr r (IsOverwide n)) same wide

  pub matched_reads : (view : List IdTriple) (given : List IdPattern) (before now : ℕ) → given ≡ ids → view ≡ numbers.triples
      → now ≤ before + count_fitting fits_ids view given → now ≤ before + count_fitting fits (graph_of numbers) templates
  matched_reads view given before now g v reads =
      let same : count_fitting fits_ids view given ≡ count_fitting fits_ids numbers.triples ids = λ i. count_fitting fits_ids (v i) (g i) in
      omega (arith, same, reads_as_many, reads)
