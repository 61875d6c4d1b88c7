-- What becomes of numbers in an update means what becomes of their graph.
use Rattle.std.proofs.Common.{◌≡◌, ℕ, ◌+◌, ◌-◌, ◌≤◌, ◌<◌, ◌⊎◌, ◌↔◌, Bool, true, false, not, nat_lt, IsTrue, is_none, List, [], ◌∷◌, ◌++◌, length, filter, filter_map, sum_by, Contains, Option, Some, None, IsSome, Result, Ok, Err, IfOk, min, ◌^◌, slice_get, refl, sym, ap, subst, ◌∙◌, inl, inr, arith}
use Rattle.std.proofs.lemmas.Bool.{cases_lt, lt-ltb, le-ltb, or_left, or_right, or_parts, or_from}
use Rattle.std.proofs.lemmas.Option.{same_Some}
use Rattle.std.proofs.lemmas.List.Elements.{All-contains, filter_passes, Contains-append_left, Contains-append_right}
use Rattle.std.proofs.lemmas.List.Filters.{length-filter_both}
use Rattle.std.proofs.lemmas.List.Kept.{IsStrictlySortedBy-filter}
use Rattle.std.proofs.lemmas.List.Sums.{sum_by-cons}
use Rattle.std.specs.List.{IsDistinct, list_any, cons_option}
use Rattle.std.specs.List.Sorted.{IsStrictlySortedBy}
use mathlib.Core.Bool.{true≢false}
use mathlib.Core.Logic.{⊎_elim}
use Rattle.m3_terms.specs.InsertedLaws.{cons_cases, head_in, tail_in, was_there, is_kept}
use Rattle.m3_terms.specs.Order.{term_eq, triple_cmp}
use Rattle.m3_terms.specs.OrderLaws.{triple_cmp_total}
use Rattle.m3_terms.specs.Pattern.{term_of, triple_of, triple_with}
use Rattle.m3_terms.specs.TermTable.{NamesOnce}
use Rattle.m3_terms.specs.declared.term.Term.{Term}
use Rattle.m3_terms.specs.declared.table.TermId.{TermId}
use Rattle.m3_terms.specs.declared.triple.Triple.{Triple}
use Rattle.m3_terms.specs.declared.pattern.Slot.{Slot}
use Rattle.m3_terms.specs.declared.pattern.Slot.TheVariants.{Any, Is}
use Rattle.m3_terms.specs.declared.pattern.Pattern.{Pattern}
use Rattle.m3_intern.specs.Interned.{Kept, bytes_of_terms, fresh, IsDraftOf}
use Rattle.m3_terms.specs.declared.memory.NoMemory.{NoMemory}
use Rattle.m3_intern.proofs.Positions.{named_once, contained_at}
use Rattle.triple_index.specs.Changes.{Net, IsNet, AreOrdered, changed}
use Rattle.triple_index.specs.Fits.{fits as fits_ids}
use Rattle.triple_index.specs.Graphs.{fits_one, with_all, after, count_fitting}
use Rattle.triple_index.specs.GraphLaws.{none_in, found_among, is_found, sorted_same, with_all_has, with_all_ordered, after_has, after_ordered}
use Rattle.triple_index.specs.IdOrder.{id_triple_cmp, id_triple_eq}
use Rattle.triple_index.specs.IdOrderLaws.{id_triple_cmp_total, id_triple_one, id_triple_exact}
use Rattle.triple_index.specs.declared.triple.IdTriple.{IdTriple}
use Rattle.triple_index.specs.declared.triple.IdPattern.{IdPattern}
use Rattle.session_core.specs.Graph.{fits, triples_of, terms_of_slot, terms_of_pattern, terms_of, graph_after, with_named}
use Rattle.session_core.specs.Numbers.{Numbers, triple_in, triples_in, graph_of, AreNumbers, made, number_in, number_of_slot, ids_with, ids_of, ids_of_triple, pattern_in}
use Rattle.session_core.specs.Requests.{is_no_triple, is_overfull}
use Rattle.session_core.specs.Prepared.{IsChange, IsUpdateOf}
use Rattle.session_core.specs.Watches.{IsNamedBy}
use Rattle.session_core.proofs.Fitting.{triple_one}
use Rattle.answer_bodies.proofs.RowTriples.{triple_terms}
use Rattle.session_core.proofs.NumbersMeanTerms.{number_found, number_some, means_still}
use Rattle.session_core.proofs.NumbersCountOnce.{nil_ordered, mapped_from, mapped_to, mapped_sum}
use Rattle.session_core.proofs.NumbersFit.{same_fits_one, as_many, fit_no_more}

no_terms : IsDistinct term_eq []
unfolding IsDistinct
no_terms = tt

-- no numbers are those of the graph without triples
pub no_numbers : (numbers : Numbers) → numbers.terms ≡ [] → numbers.triples ≡ [] → AreNumbers numbers
no_numbers numbers e f = record {
  once = subst (IsDistinct term_eq) (sym e) no_terms;
  ordered = subst AreOrdered (sym f) (nil_ordered id_triple_cmp);
  named = λ t c. absurd (none_in t (subst (λ l. Contains l t) f c));
}

-- the graph of no triples is empty
pub nothing_meant : (numbers : Numbers) → numbers.triples ≡ [] → graph_of numbers ≡ []
unfolding graph_of
nothing_meant numbers e = ap (λ triples. with_all triple_cmp [] (triples_in numbers.terms triples)) e

-- the graph is in order
pub graph_ordered : (numbers : Numbers) → IsStrictlySortedBy triple_cmp (graph_of numbers)
unfolding graph_of
graph_ordered numbers = with_all_ordered triple_cmp_total triple_one [] (triples_in numbers.terms numbers.triples) (nil_ordered triple_cmp)

-- what is in the graph is meant by a triple of numbers
pub graph_from : (numbers : Numbers) (q : Triple) → Contains (graph_of numbers) q → (t : IdTriple) × Contains numbers.triples t × (triple_in numbers.terms t ≡ Some q)
unfolding graph_of
graph_from numbers q c = mapped_from (triple_in numbers.terms) numbers.triples q
    (⊎_elim (λ none. absurd (none_in q none)) (λ d. d) ((with_all_has triple_cmp_total triple_one [] (triples_in numbers.terms numbers.triples) q).0 c))

-- and what a triple of numbers means is in the graph
pub graph_has : (numbers : Numbers) (t : IdTriple) (q : Triple) → Contains numbers.triples t → triple_in numbers.terms t ≡ Some q → Contains (graph_of numbers) q
unfolding graph_of
graph_has numbers t q c h =
    (with_all_has triple_cmp_total triple_one [] (triples_in numbers.terms numbers.triples) q).1
    (inr (mapped_to (triple_in numbers.terms) numbers.triples t q c h))

-- the graph has as many triples as there are of numbers
pub graph_length : (numbers : Numbers) → AreNumbers numbers → length (graph_of numbers) ≡ length numbers.triples
unfolding graph_of
graph_length numbers are = as_many numbers.terms (named_once numbers.terms are.once) numbers.triples are.ordered are.named

-- the meaning of what means a triple
pub meant : (terms : List Term) (t : IdTriple) → IsSome (triple_in terms t) → (q : Triple) × (triple_in terms t ≡ Some q)
meant terms t some = at (triple_in terms t) some refl
  where
    at : (found : Option Triple) → IsSome found → triple_in terms t ≡ found → (q : Triple) × (triple_in terms t ≡ Some q)
    at None s h = cc
    at (Some q) s h = (q, h)

pub is_meant : (terms : List Term) (t : IdTriple) (q : Triple) → triple_in terms t ≡ Some q → IsSome (triple_in terms t)
is_meant terms t q h = subst (λ x. IsSome x) (sym h) refl

-- triples that mean something mean the same where more terms stand behind
pub triples_still : (terms more : List Term) (triples : List IdTriple) → ((t : IdTriple) → Contains triples t → IsSome (triple_in terms t))
    → triples_in (terms ++ more) triples ≡ triples_in terms triples
triples_still terms more [] named = refl
triples_still terms more (t ∷ ts) named =
    let m = meant terms t (named t (head_in t ts)) in
    let rest = triples_still terms more ts (λ u c. named u (tail_in t ts u c)) in
    ap (λ x. cons_option x (triples_in (terms ++ more) ts)) (means_still terms more t m.0 m.1 ∙ sym m.1)
    ∙ ap (cons_option (triple_in terms t)) rest

-- patterns of numbers that more terms have fit no more triples of numbers than the patterns fit triples
pub reads_no_more : (numbers : Numbers) (more : List Term) (patterns : List Pattern) → AreNumbers numbers → IsDistinct term_eq (numbers.terms ++ more)
    → count_fitting fits_ids numbers.triples (filter_map (pattern_in (numbers.terms ++ more)) patterns) ≤ count_fitting fits (graph_of numbers) patterns
unfolding graph_of
reads_no_more numbers more patterns are once =
    subst (λ triples. count_fitting fits_ids numbers.triples (filter_map (pattern_in (numbers.terms ++ more)) patterns)
    ≤ count_fitting fits (with_all triple_cmp [] triples) patterns)
    (triples_still numbers.terms more numbers.triples are.named)
    (fit_no_more (numbers.terms ++ more) (named_once (numbers.terms ++ more) once) numbers.triples are.ordered
    (λ t c. let m = meant numbers.terms t (are.named t c) in is_meant (numbers.terms ++ more) t m.0 (means_still numbers.terms more t m.0 m.1)) patterns)

-- ---- patterns that are inserted

module _ (terms : List Term) where
  three_ids : (a b c : Option TermId) (t : IdTriple) → ids_with a b c ≡ Some t → (a ≡ Some t.subject) × (b ≡ Some t.predicate) × (c ≡ Some t.object)
  three_ids None b c t h = cc
  three_ids (Some s) None c t h = cc
  three_ids (Some s) (Some p) None t h = cc
  three_ids (Some s) (Some p) (Some o) t h =
      let e = same_Some _ t h in
      (ap (λ (u : IdTriple). Some u.subject) e, ap (λ (u : IdTriple). Some u.predicate) e, ap (λ (u : IdTriple). Some u.object) e)

  -- the number of a slot means its term
  slot_found : (slot : Slot) (id : TermId) → number_of_slot terms slot ≡ Some id → slice_get terms id.0 ≡ term_of slot
  slot_found Any id h = cc
  slot_found (Is term) id h = number_found terms term id h

  -- and a slot whose term is there has a number
  slot_some : (slot : Slot) (term : Term) → term_of slot ≡ Some term → Contains terms term → (id : TermId) × (number_of_slot terms slot ≡ Some id)
  slot_some Any term e c = cc
  slot_some (Is other) term e c = number_some terms other (subst (Contains terms) (sym (same_Some other term e)) c)

  -- the numbers of a pattern mean what it is
  ids_mean : (pattern : Pattern) (t : IdTriple) → ids_of terms pattern ≡ Some t → triple_in terms t ≡ triple_of pattern
  ids_mean pattern t h =
      let e = three_ids _ _ _ t h in
      ap (λ x. triple_with x (slice_get terms t.predicate.0) (slice_get terms t.object.0)) (slot_found pattern.subject t.subject e.0)
      ∙ ap (λ x. triple_with (term_of pattern.subject) x (slice_get terms t.object.0)) (slot_found pattern.predicate t.predicate e.1)
      ∙ ap (λ x. triple_with (term_of pattern.subject) (term_of pattern.predicate) x) (slot_found pattern.object t.object e.2)

  in_slot : (slot : Slot) (term : Term) → term_of slot ≡ Some term → Contains (terms_of_slot slot) term
  in_slot Any term e = cc
  in_slot (Is other) term e = subst (Contains (other ∷ [])) (same_Some other term e) (head_in other [])

  -- a pattern that is a triple, and whose terms are there, has numbers
  ids_some : (pattern : Pattern) (q : Triple) → triple_of pattern ≡ Some q → ((term : Term) → Contains (terms_of_pattern pattern) term → Contains terms term)
      → (t : IdTriple) × (ids_of terms pattern ≡ Some t)
  ids_some pattern q h there =
      let e = triple_terms _ _ _ q h in
      let s = slot_some pattern.subject q.subject e.0 (there q.subject (Contains-append_left (terms_of_slot pattern.subject) _ q.subject (in_slot pattern.subject q.subject e.0))) in
      let p = slot_some pattern.predicate q.predicate e.1 (there q.predicate (Contains-append_right (terms_of_slot pattern.subject) _ q.predicate
      (Contains-append_left (terms_of_slot pattern.predicate) _ q.predicate (in_slot pattern.predicate q.predicate e.1)))) in
      let o = slot_some pattern.object q.object e.2 (there q.object (Contains-append_right (terms_of_slot pattern.subject) _ q.object
      (Contains-append_right (terms_of_slot pattern.predicate) _ q.object (in_slot pattern.object q.object e.2)))) in
      (record { subject = s.0; predicate = p.0; object = o.0 }, λ i. ids_with (s.1 i) (p.1 i) (o.1 i))

  -- the terms of one pattern are among those of all
  terms_there : (patterns : List Pattern) (pattern : Pattern) (term : Term) → Contains patterns pattern → Contains (terms_of_pattern pattern) term → Contains (terms_of patterns) term
  terms_there [] pattern term c d = absurd (none_in pattern c)
  terms_there (first ∷ patterns) pattern term c d = ⊎_elim
      (λ e. Contains-append_left (terms_of_pattern first) (terms_of patterns) term (subst (λ p. Contains (terms_of_pattern p) term) (sym e) d))
      (λ rest. Contains-append_right (terms_of_pattern first) (terms_of patterns) term (terms_there patterns pattern term rest d))
      (cons_cases first patterns pattern c)

  -- what is inserted by numbers is what is inserted
  inserted_from : (patterns : List Pattern) (t : IdTriple) (q : Triple) → Contains (filter_map (ids_of terms) patterns) t → triple_in terms t ≡ Some q
      → Contains (triples_of patterns) q
  inserted_from patterns t q c h =
      let p = mapped_from (ids_of terms) patterns t c in
      mapped_to triple_of patterns p.0 q p.1 (sym (ids_mean p.0 t p.2) ∙ h)

  inserted_to : (patterns : List Pattern) (q : Triple) → ((term : Term) → Contains (terms_of patterns) term → Contains terms term) → Contains (triples_of patterns) q
      → (t : IdTriple) × Contains (filter_map (ids_of terms) patterns) t × (triple_in terms t ≡ Some q)
  inserted_to patterns q there c =
      let p = mapped_from triple_of patterns q c in
      let t = ids_some p.0 q p.2 (λ term d. there term (terms_there patterns p.0 term p.1 d)) in
      (t.0, mapped_to (ids_of terms) patterns p.0 t.0 p.1 t.1, ids_mean p.0 t.0 t.1 ∙ p.2)

  -- patterns that can be inserted are triples
  each_triple : (patterns : List Pattern) → list_any is_no_triple patterns ≡ false → (pattern : Pattern) → Contains patterns pattern → IsSome (triple_of pattern)
  each_triple [] h pattern c = absurd (none_in pattern c)
  each_triple (first ∷ patterns) h pattern c =
      let n = or_parts (is_no_triple first) (list_any is_no_triple patterns) h in
      ⊎_elim
      (λ e. subst (λ p. IsSome (triple_of p)) e (at (triple_of first) n.0))
      (λ rest. each_triple patterns n.1 pattern rest)
      (cons_cases first patterns pattern c)
    where
      at : (found : Option Triple) → is_none found ≡ false → IsSome found
      at None e = absurd (true≢false e)
      at (Some q) e = refl

  -- so each of their numbers means one
  inserted_named : (patterns : List Pattern) → list_any is_no_triple patterns ≡ false → (t : IdTriple) → Contains (filter_map (ids_of terms) patterns) t → IsSome (triple_in terms t)
  inserted_named patterns h t c =
      let p = mapped_from (ids_of terms) patterns t c in
      subst (λ x. IsSome x) (sym (ids_mean p.0 t p.2)) (each_triple patterns h p.0 p.1)

-- ---- the update

module _ (old : Numbers) (more : List Term) (remove insert : List Pattern) (change : Net)
    (are : AreNumbers old) (once : IsDistinct term_eq (old.terms ++ more))
    (there : (term : Term) → Contains (terms_of insert) term → Contains (old.terms ++ more) term)
    (triples : list_any is_no_triple insert ≡ false) (is : IsChange old more remove insert change) where
  abbrev pub gone : List IdPattern
  gone = filter_map (pattern_in (old.terms ++ more)) remove

  abbrev pub come : List IdTriple
  come = filter_map (ids_of (old.terms ++ more)) insert

  names : NamesOnce (slice_get (old.terms ++ more))
  names = named_once (old.terms ++ more) once

  abbrev pub new : Numbers
  new = made old more change

  new_has : (t : IdTriple) → Contains new.triples t ↔ ((Contains old.triples t × (fits_one fits_ids gone t ≡ false)) ⊎ Contains come t)
  new_has t =
      let has = after_has id_triple_cmp_total id_triple_one fits_ids old.triples gone come t in
      (λ c. has.0 (subst (λ l. Contains l t) is.makes c), λ s. subst (λ l. Contains l t) (sym is.makes) (has.1 s))

  still : (t : IdTriple) (q : Triple) → triple_in old.terms t ≡ Some q → triple_in (old.terms ++ more) t ≡ Some q
  still = means_still old.terms more

  -- the new numbers are numbers of a graph
  pub update_numbers : AreNumbers new
  update_numbers = record {
    once = once;
    ordered = subst AreOrdered (sym is.makes) (after_ordered id_triple_cmp_total id_triple_one fits_ids old.triples gone come are.ordered);
    named = λ t c. ⊎_elim
        (λ (kept : Contains old.triples t × (fits_one fits_ids gone t ≡ false)).
        let m = meant old.terms t (are.named t kept.0) in is_meant (old.terms ++ more) t m.0 (still t m.0 m.1))
        (λ came. inserted_named (old.terms ++ more) insert triples t came)
        ((new_has t).0 c);
  }

  from_new : (q : Triple) → Contains (graph_of new) q → Contains (graph_after (graph_of old) remove insert) q
  from_new q c =
      let t = graph_from new q c in
      let has = after_has triple_cmp_total triple_one fits (graph_of old) remove (triples_of insert) q in
      has.1 (⊎_elim
      (λ (kept : Contains old.triples t.0 × (fits_one fits_ids gone t.0 ≡ false)).
      let m = meant old.terms t.0 (are.named t.0 kept.0) in
      let same : m.0 ≡ q = same_Some m.0 q (sym (still t.0 m.0 m.1) ∙ t.2) in
      inl (
        graph_has old t.0 q kept.0 (m.1 ∙ ap Some same),
        sym (same_fits_one (old.terms ++ more) names remove t.0 q t.2) ∙ kept.1,
      ))
      (λ came. inr (inserted_from (old.terms ++ more) insert t.0 q came t.2))
      ((new_has t.0).0 t.1))

  to_new : (q : Triple) → Contains (graph_after (graph_of old) remove insert) q → Contains (graph_of new) q
  to_new q c = ⊎_elim
      (λ (kept : Contains (graph_of old) q × (fits_one fits remove q ≡ false)).
      let t = graph_from old q kept.0 in
      let means = still t.0 q t.2 in
      graph_has new t.0 q ((new_has t.0).1 (inl (t.1, same_fits_one (old.terms ++ more) names remove t.0 q means ∙ kept.1))) means)
      (λ came.
      let t = inserted_to (old.terms ++ more) insert q there came in
      graph_has new t.0 q ((new_has t.0).1 (inr t.1)) t.2)
      ((after_has triple_cmp_total triple_one fits (graph_of old) remove (triples_of insert) q).0 c)

  -- and their graph is the graph after the update
  pub update_graph : graph_of new ≡ graph_after (graph_of old) remove insert
  update_graph = sorted_same triple_cmp_total (graph_of new) (graph_after (graph_of old) remove insert)
      (graph_ordered new) (after_ordered triple_cmp_total triple_one fits (graph_of old) remove (triples_of insert) (graph_ordered old))
      from_new to_new

-- ---- what a graph has, and what passes limits

-- the numbers of a triple's terms mean the triple
ids_are : (terms : List Term) (q : Triple) → (t : IdTriple) → ids_of_triple terms q ≡ Some t
    → (slice_get terms t.subject.0 ≡ Some q.subject) × (slice_get terms t.predicate.0 ≡ Some q.predicate) × (slice_get terms t.object.0 ≡ Some q.object)
ids_are terms q t h =
    let e = three_ids terms _ _ _ t h in
    (number_found terms q.subject t.subject e.0, number_found terms q.predicate t.predicate e.1, number_found terms q.object t.object e.2)

-- the graph has a triple exactly where its terms have numbers and the triple of these is there
pub graph_contains : (numbers : Numbers) → AreNumbers numbers → (q : Triple) (t : IdTriple) → ids_of_triple numbers.terms q ≡ Some t
    → Contains numbers.triples t ↔ Contains (graph_of numbers) q
graph_contains numbers are q t h = (
  λ c.
      let m = meant numbers.terms t (are.named t c) in
      let a = ids_are numbers.terms q t h in
      let b = triple_terms _ _ _ m.0 m.1 in
      let subject = same_Some q.subject m.0.subject (sym a.0 ∙ b.0) in
      let predicate = same_Some q.predicate m.0.predicate (sym a.1 ∙ b.1) in
      let object = same_Some q.object m.0.object (sym a.2 ∙ b.2) in
      let same : m.0 ≡ q = λ i. record { subject = sym subject i; predicate = sym predicate i; object = sym object i } in
      graph_has numbers t q c (m.1 ∙ ap Some same),
  λ c.
      let u = graph_from numbers q c in
      let a = ids_are numbers.terms q t h in
      let b = triple_terms _ _ _ q u.2 in
      let once = named_once numbers.terms are.once in
      let subject = once u.0.subject.0 t.subject.0 q.subject b.0 a.0 in
      let predicate = once u.0.predicate.0 t.predicate.0 q.predicate b.1 a.1 in
      let object = once u.0.object.0 t.object.0 q.object b.2 a.2 in
      let same : u.0 ≡ t = λ i. record { subject = record { 0 = subject i }; predicate = record { 0 = predicate i }; object = record { 0 = object i } } in
      subst (Contains numbers.triples) same u.1,
)

-- and where a term has no number it has it not
pub graph_lacks : (numbers : Numbers) → (q : Triple) → ids_of_triple numbers.terms q ≡ None → Contains (graph_of numbers) q → ⊥
graph_lacks numbers q h c =
    let u = graph_from numbers q c in
    let b = triple_terms _ _ _ q u.2 in
    at (number_in numbers.terms q.subject) (number_in numbers.terms q.predicate) (number_in numbers.terms q.object)
    (some q.subject u.0.subject b.0) (some q.predicate u.0.predicate b.1) (some q.object u.0.object b.2) h
  where
    some : (term : Term) (id : TermId) → slice_get numbers.terms id.0 ≡ Some term → (number : TermId) × (number_in numbers.terms term ≡ Some number)
    some term id e = number_some numbers.terms term (contained_at numbers.terms term id.0 e)

    at : (a b c : Option TermId) → (x : TermId) × (a ≡ Some x) → (x : TermId) × (b ≡ Some x) → (x : TermId) × (c ≡ Some x) → ids_with a b c ≡ None → ⊥
    at None b c x y z e = let k = x.1 in cc
    at (Some s) None c x y z e = let k = y.1 in cc
    at (Some s) (Some p) None x y z e = let k = z.1 in cc
    at (Some s) (Some p) (Some o) x y z e = cc

ones : {X : Type 0} (xs : List X) → sum_by (λ x. 1) xs ≡ length xs
ones [] = refl
ones (x ∷ xs) = omega (arith, sum_by-cons (λ x. 1) x xs, ones xs)

all_mapped : {X : Type 0} (xs : List X) → filter_map Some xs ≡ xs
all_mapped [] = refl
all_mapped (x ∷ xs) = ap (λ l. x ∷ l) (all_mapped xs)

-- a net change takes as many triples out as it removes, and puts in as many as it inserts
pub changed_length : (triples : List IdTriple) (change : Net) → AreOrdered triples → AreOrdered change.removed → AreOrdered change.inserted → IsNet triples change
    → length (changed triples change) ≡ length triples - length change.removed + length change.inserted
changed_length triples change s r i net =
    let goes : IdTriple → Bool = λ t. fits_one id_triple_eq change.removed t in
    let stays : IdTriple → Bool = λ t. not (goes t) in
    let removed : change.removed ≡ filter goes triples = sorted_same id_triple_cmp_total change.removed (filter goes triples) r
    (IsStrictlySortedBy-filter id_triple_cmp goes triples s)
    (λ q c. is_kept goes triples q (found_among id_triple_eq id_triple_exact change.removed q c) (net.removed_there q c))
    (λ q c. is_found id_triple_eq id_triple_exact change.removed q
    (All-contains (λ x. goes x ≡ true) (filter goes triples) q (filter_passes goes triples) c)) in
    let both : length (filter goes triples) + length (filter stays triples) ≡ length triples = length-filter_both goes stays (λ t. refl) triples in
    let left : List IdTriple = filter stays triples in
    let sum = mapped_sum id_triple_cmp_total id_triple_one (λ t. 1) id_triple_cmp_total Some (λ t. 1) (λ t k e. refl)
    (λ s t k e f. same_Some s t (e ∙ sym f)) left change.inserted i (λ t c. refl)
    (λ t k c e there. net.inserted_new k (subst (Contains change.inserted) (same_Some t k e) c) (was_there stays triples k there)) in
    let longer : length (changed triples change) ≡ length left + length change.inserted =
    sym (ones (changed triples change)) ∙ ap (λ l. sum_by (λ t. 1) (with_all id_triple_cmp left l)) (sym (all_mapped change.inserted))
    ∙ sum ∙ omega (arith, ones left, ones change.inserted) in
    omega (arith, longer, both, ap length removed)

-- an update that passes a limit, of triples or of named terms
pub over_terms : (graph : List Triple) (named : List Term) (remove insert : List Pattern) → 268435456 < bytes_of_terms (with_named named (terms_of insert))
    → is_overfull graph named remove insert ≡ true
over_terms graph named remove insert h =
    or_right (nat_lt 262144 (length (graph_after graph remove insert))) _ (lt-ltb 268435456 (bytes_of_terms (with_named named (terms_of insert))) h)

-- ---- what is prepared, and limits

module _ (old : Numbers) (more : List Term) (remove insert : List Pattern) (change : Net)
    (are : AreNumbers old) (triples : list_any is_no_triple insert ≡ false) (draft : IsNamedBy old (terms_of insert) more) (is : IsChange old more remove insert change) where
  numbers : AreNumbers (made old more change)
  numbers = update_numbers old more remove insert change are draft.once draft.named triples is

  graph : graph_of (made old more change) ≡ graph_after (graph_of old) remove insert
  graph = update_graph old more remove insert change are draft.once draft.named triples is

  long : length (graph_after (graph_of old) remove insert) ≡ length (changed old.triples change)
  long = sym (ap length graph) ∙ graph_length (made old more change) numbers

  named : old.terms ++ more ≡ with_named old.terms (terms_of insert)
  named = ap (λ l. old.terms ++ l) draft.new

  -- an update that would leave too many triples passes the limit
  pub over_triples : 262144 < length (changed old.triples change) → is_overfull (graph_of old) old.terms remove insert ≡ true
  over_triples h =
      or_left (nat_lt 262144 (length (graph_after (graph_of old) remove insert))) _
      (lt-ltb 262144 (length (graph_after (graph_of old) remove insert)) (omega (arith, long, h)))

  -- and another is ready to be made
  pub is_update : length (changed old.triples change) ≤ 262144 → IsUpdateOf old remove insert more change
  is_update h = record {
    can = record { within = draft.within; net = is.net; numbers = numbers };
    graph = graph;
    named = named;
    within = or_from (nat_lt 262144 (length (graph_after (graph_of old) remove insert))) _
        (le-ltb 262144 (length (graph_after (graph_of old) remove insert)) (omega (arith, long, h)))
        (le-ltb 268435456 (bytes_of_terms (with_named old.terms (terms_of insert))) (subst (λ l. bytes_of_terms l ≤ 268435456) named draft.within));
  }

-- the new terms that an interner drafts are those among some that are named
pub draft_is : (kept : Kept) (old : Numbers) (wanted more : List Term) → kept.terms ≡ old.terms → kept.limit ≡ 268435456
    → more ≡ fresh kept.terms wanted → IsDraftOf kept more
    → ((term : Term) → Contains wanted term → Contains (kept.terms ++ more) term) → IsNamedBy old wanted more
draft_is kept old wanted more e limit n is there = record {
  new = n ∙ ap (λ terms. fresh terms wanted) e;
  once = subst (λ terms. IsDistinct term_eq (terms ++ more)) e is.once;
  within = subst (λ terms. bytes_of_terms (terms ++ more) ≤ 268435456) e (subst (λ n. bytes_of_terms (kept.terms ++ more) ≤ n) limit is.within);
  named = λ term c. subst (λ terms. Contains (terms ++ more) term) e (there term c);
}

-- the patterns of an update by the numbers of a table
pub record AreTranslated (old : Numbers) (more : List Term) (remove insert : List Pattern) (goes : List IdPattern) (comes : List IdTriple) : Type 0 where
  pub removed : goes ≡ filter_map (pattern_in (old.terms ++ more)) remove
  pub inserted : comes ≡ filter_map (ids_of (old.terms ++ more)) insert

pub translated : (old : Numbers) (more table : List Term) (remove insert removes inserts : List Pattern) (goes : List IdPattern) (comes : List IdTriple)
    → table ≡ old.terms ++ more → removes ≡ remove → inserts ≡ insert → goes ≡ filter_map (pattern_in table) removes → comes ≡ filter_map (ids_of table) inserts
    → AreTranslated old more remove insert goes comes
translated old more table remove insert removes inserts goes comes t r i g c = record {
  removed = g ∙ ap (λ l. filter_map (pattern_in l) removes) t ∙ ap (filter_map (pattern_in (old.terms ++ more))) r;
  inserted = c ∙ ap (λ l. filter_map (ids_of l) inserts) t ∙ ap (filter_map (ids_of (old.terms ++ more))) i;
}

-- the net change that an index makes of them is that of the update
pub change_is : (old : Numbers) (more : List Term) (remove insert : List Pattern) (goes : List IdPattern) (comes triples : List IdTriple) (r : Result Net NoMemory)
    → AreTranslated old more remove insert goes comes → triples ≡ old.triples → IfOk r (IsNet triples)
    → IfOk r (λ change. changed triples change ≡ after id_triple_cmp fits_ids triples goes comes) → IfOk r (IsChange old more remove insert)
change_is old more remove insert goes comes triples (Ok change) t e n a = record {
  net = subst (λ l. IsNet l change) e n;
  makes = ap (λ l. changed l change) (sym e) ∙ a ∙ ap (λ l. after id_triple_cmp fits_ids l goes comes) e
      ∙ ap (λ l. after id_triple_cmp fits_ids old.triples l comes) t.removed
      ∙ ap (after id_triple_cmp fits_ids old.triples (filter_map (pattern_in (old.terms ++ more)) remove)) t.inserted;
}
change_is old more remove insert goes comes triples (Err refused) t e n a = tt

-- and it reads no more rows than the update may
pub change_reads : (old : Numbers) (more : List Term) (remove insert : List Pattern) (goes : List IdPattern) (comes triples : List IdTriple) (before now : ℕ)
    → AreNumbers old → IsDistinct term_eq (old.terms ++ more) → AreTranslated old more remove insert goes comes → triples ≡ old.triples
    → now ≤ before + count_fitting fits_ids triples goes → now ≤ before + count_fitting fits (graph_of old) remove
change_reads old more remove insert goes comes triples before now are once t e h =
    let most = reads_no_more old more remove are once in
    let same : count_fitting fits_ids triples goes ≡ count_fitting fits_ids old.triples (filter_map (pattern_in (old.terms ++ more)) remove) =
    ap (λ l. count_fitting fits_ids l goes) e ∙ ap (count_fitting fits_ids old.triples) t.removed in
    omega (arith, most, same, h)

-- the test on the lengths of a net change says whether the graph would have too many triples
pub full_is : (triples : List IdTriple) (change : Net) (all removed kept inserted sum : ℕ) → AreOrdered triples → AreOrdered change.removed → AreOrdered change.inserted
    → IsNet triples change → all ≡ length triples → removed ≡ length change.removed → inserted ≡ length change.inserted → kept ≡ all - removed
    → sum ≡ min (kept + inserted) (2 ^ 64 - 1) → IsTrue (nat_lt 262144 sum) ↔ (262144 < length (changed triples change))
full_is triples change all removed kept inserted sum s r i net a b d k m = at (cases_lt 262144 sum)
  where
    long : length (changed triples change) ≡ length triples - length change.removed + length change.inserted
    long = changed_length triples change s r i net

    at : (262144 < sum) ⊎ (sum ≤ 262144) → IsTrue (nat_lt 262144 sum) ↔ (262144 < length (changed triples change))
    at (inl more) = (λ h. omega (arith, long, a, b, d, k, m, more), λ h. lt-ltb 262144 sum more)
    at (inr few) = (
      λ h. absurd (true≢false (sym h ∙ le-ltb 262144 sum few)),
      λ h. absurd (omega (arith, long, a, b, d, k, m, few, h)),
    )

-- what a test says where it fails
pub not_full : (n : ℕ) (full : Bool) → full ≡ false → IsTrue full ↔ (262144 < n) → n ≤ 262144
not_full n full e h = ⊎_elim (λ (over : 262144 < n). absurd (true≢false (sym (h.1 over) ∙ e))) (λ (few : n ≤ 262144). few) (cases_lt 262144 n)
