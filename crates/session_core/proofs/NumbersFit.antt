-- Triples of numbers fit patterns of numbers exactly where the triples that they mean fit the patterns.
use Rattle.std.proofs.Common.{◌≡◌, ◌∙◌, ℕ, ◌+◌, ◌≤◌, ◌⊎◌, Bool, true, false, ◌&&◌, ◌||◌, cond, List, [], ◌∷◌, length, filter, filter_map, sum_by, Contains, Option, Some, None, IsSome, slice_get, refl, sym, ap, inl, inr, arith, nat_eq}
use Rattle.std.proofs.lemmas.Bool.Decides.{Decides-eqb}
use Rattle.std.proofs.lemmas.Option.{same_Some}
use Rattle.std.proofs.lemmas.List.Sums.{sum_by-cons, length-filter}
use Rattle.std.specs.List.{cons_option}
use mathlib.Core.Logic.{⊎_elim}
use Rattle.m3_terms.specs.Order.{term_eq, triple_cmp}
use Rattle.m3_terms.specs.OrderLaws.{term_exact, triple_cmp_total}
use Rattle.m3_terms.specs.TermTable.{NamesOnce}
use Rattle.m3_terms.specs.declared.term.Term.{Term}
use Rattle.m3_terms.specs.declared.table.TermId.{TermId}
use Rattle.m3_terms.specs.declared.triple.Triple.{Triple}
use Rattle.m3_terms.specs.declared.pattern.Slot.{Slot}
use Rattle.m3_terms.specs.declared.pattern.Slot.TheVariants.{Any, Is}
use Rattle.m3_terms.specs.declared.pattern.Pattern.{Pattern}
use Rattle.triple_index.specs.Changes.{AreOrdered}
use Rattle.triple_index.specs.Fits.{fits as fits_ids, admits as admits_id}
use Rattle.triple_index.specs.Graphs.{fits_one, with_all, count_fitting}
use Rattle.triple_index.specs.GraphLaws.{none_in}
use Rattle.triple_index.specs.IdOrderLaws.{id_triple_cmp_total}
use Rattle.triple_index.specs.declared.triple.IdTriple.{IdTriple}
use Rattle.triple_index.specs.declared.triple.IdPattern.{IdPattern}
use Rattle.session_core.specs.Graph.{admits, fits}
use Rattle.session_core.specs.Numbers.{triple_in, triples_in, number_in, place_of, place_in, pattern_with, pattern_in}
use Rattle.answer_bodies.proofs.RowTriples.{triple_terms}
use Rattle.session_core.proofs.NumbersMeanTerms.{number_found, number_none, means_one}
use Rattle.session_core.proofs.NumbersCountOnce.{mapped_sum}
use Rattle.session_core.proofs.Fitting.{triple_one, unlike}

-- two tests of which each passes where the other does are one
one_test : (a b : Bool) → (a ≡ true → b ≡ true) → (b ≡ true → a ≡ true) → a ≡ b
one_test true b f g = sym (f refl)
one_test false true f g = g refl
one_test false false f g = refl

module _ (terms : List Term) (once : NamesOnce (slice_get terms)) where
  -- a number is that of a term exactly where both mean one term
  same_number : (id n : TermId) (wanted term : Term) → slice_get terms id.0 ≡ Some wanted → slice_get terms n.0 ≡ Some term
      → nat_eq id.0 n.0 ≡ term_eq wanted term
  same_number id n wanted term h k = one_test (nat_eq id.0 n.0) (term_eq wanted term)
      (λ e. (term_exact wanted term).1 (same_Some wanted term (sym h ∙ ap (slice_get terms) ((Decides-eqb id.0 n.0).0 e) ∙ k)))
      (λ e. (Decides-eqb id.0 n.0).1 (once id.0 n.0 term (h ∙ ap Some ((term_exact wanted term).0 e)) k))

  -- a place admits a number exactly where its slot admits the term
  same_admits : (slot : Slot) (place : Option TermId) (n : TermId) (term : Term) → place_in terms slot ≡ Some place → slice_get terms n.0 ≡ Some term
      → admits_id place n ≡ admits slot term
  same_admits Any place n term h k = ap (λ p. admits_id p n) (sym (same_Some None place h))
  same_admits (Is wanted) place n term h k = at (number_in terms wanted) refl h
    where
      at : (found : Option TermId) → number_in terms wanted ≡ found → place_of found ≡ Some place → admits_id place n ≡ term_eq wanted term
      at None e p = cc
      at (Some id) e p = ap (λ p. admits_id p n) (sym (same_Some (Some id) place p)) ∙ same_number id n wanted term (number_found terms wanted id e) k

  -- and a slot that has no place admits none of the terms
  none_admits : (slot : Slot) (n : TermId) (term : Term) → place_in terms slot ≡ None → slice_get terms n.0 ≡ Some term → admits slot term ≡ false
  none_admits Any n term h k = cc
  none_admits (Is wanted) n term h k = at (number_in terms wanted) refl h
    where
      at : (found : Option TermId) → number_in terms wanted ≡ found → place_of found ≡ None → term_eq wanted term ≡ false
      at None e p = unlike (term_eq wanted term) (λ same. number_none terms wanted e n.0 (k ∙ ap Some (sym ((term_exact wanted term).0 same))))
      at (Some id) e p = cc

  and_assoc : (a b c : Bool) → (a && b && c) ≡ (a && (b && c))
  and_assoc true b c = refl
  and_assoc false b c = refl

  unless_all : (a b c : Bool) → (a ≡ false) ⊎ (b ≡ false) ⊎ (c ≡ false) → (a && (b && c)) ≡ false
  unless_all false b c s = refl
  unless_all true false c s = refl
  unless_all true true c (inl e) = cc
  unless_all true true c (inr (inl e)) = cc
  unless_all true true c (inr (inr e)) = e

  -- three places make a pattern
  places : (a b c : Option (Option TermId)) (ids : IdPattern) → pattern_with a b c ≡ Some ids → (a ≡ Some ids.subject) × (b ≡ Some ids.predicate) × (c ≡ Some ids.object)
  places None b c ids h = cc
  places (Some s) None c ids h = cc
  places (Some s) (Some p) None ids h = cc
  places (Some s) (Some p) (Some o) ids h =
      let e = same_Some _ ids h in
      (ap (λ (t : IdPattern). Some t.subject) e, ap (λ (t : IdPattern). Some t.predicate) e, ap (λ (t : IdPattern). Some t.object) e)

  -- and where there is none, one of the places is missing
  missing : (a b c : Option (Option TermId)) → pattern_with a b c ≡ None → (a ≡ None) ⊎ (b ≡ None) ⊎ (c ≡ None)
  missing None b c h = inl refl
  missing (Some s) None c h = inr (inl refl)
  missing (Some s) (Some p) None h = inr (inr refl)
  missing (Some s) (Some p) (Some o) h = cc

  -- a triple of numbers fits a pattern of numbers exactly where the triple fits the pattern
  same_fits : (pattern : Pattern) (ids : IdPattern) (t : IdTriple) (q : Triple) → pattern_in terms pattern ≡ Some ids → triple_in terms t ≡ Some q
      → fits_ids ids t ≡ fits pattern q
  same_fits pattern ids t q h k =
      let p = places _ _ _ ids h in
      let m = triple_terms _ _ _ q k in
      let s : admits_id ids.subject t.subject ≡ admits pattern.subject q.subject = same_admits pattern.subject ids.subject t.subject q.subject p.0 m.0 in
      let r : admits_id ids.predicate t.predicate ≡ admits pattern.predicate q.predicate = same_admits pattern.predicate ids.predicate t.predicate q.predicate p.1 m.1 in
      let o : admits_id ids.object t.object ≡ admits pattern.object q.object = same_admits pattern.object ids.object t.object q.object p.2 m.2 in
      and_assoc (admits_id ids.subject t.subject) (admits_id ids.predicate t.predicate) (admits_id ids.object t.object)
      ∙ (λ i. s i && (r i && o i))

  -- and a pattern that has no numbers is fitted by none
  none_fits_it : (pattern : Pattern) (t : IdTriple) (q : Triple) → pattern_in terms pattern ≡ None → triple_in terms t ≡ Some q → fits pattern q ≡ false
  none_fits_it pattern t q h k =
      let m = triple_terms _ _ _ q k in
      unless_all (admits pattern.subject q.subject) (admits pattern.predicate q.predicate) (admits pattern.object q.object)
      (⊎_elim (λ e. inl (none_admits pattern.subject t.subject q.subject e m.0))
      (λ later. ⊎_elim (λ e. inr (inl (none_admits pattern.predicate t.predicate q.predicate e m.1)))
      (λ e. inr (inr (none_admits pattern.object t.object q.object e m.2))) later)
      (missing _ _ _ h))

  -- the same for one of some patterns
  pub same_fits_one : (patterns : List Pattern) (t : IdTriple) (q : Triple) → triple_in terms t ≡ Some q
      → fits_one fits_ids (filter_map (pattern_in terms) patterns) t ≡ fits_one fits patterns q
  same_fits_one [] t q k = refl
  same_fits_one (pattern ∷ patterns) t q k = at (pattern_in terms pattern) refl (same_fits_one patterns t q k)
    where
      at : (found : Option IdPattern) → pattern_in terms pattern ≡ found
          → fits_one fits_ids (filter_map (pattern_in terms) patterns) t ≡ fits_one fits patterns q
          → fits_one fits_ids (cons_option found (filter_map (pattern_in terms) patterns)) t ≡ (fits pattern q || fits_one fits patterns q)
      at None h rest = rest ∙ ap (λ b. b || fits_one fits patterns q) (sym (none_fits_it pattern t q h k))
      at (Some ids) h rest = λ i. same_fits pattern ids t q h k i || rest i

  module _ (triples : List IdTriple) (ordered : AreOrdered triples) (named : (t : IdTriple) → Contains triples t → IsSome (triple_in terms t)) where
    -- the triples weigh as much as those that they mean, where each weighs as much as what it means
    pub weighed : (f : Triple → ℕ) (g : IdTriple → ℕ) → ((t : IdTriple) (q : Triple) → triple_in terms t ≡ Some q → g t ≡ f q)
        → sum_by f (with_all triple_cmp [] (triples_in terms triples)) ≡ sum_by g triples
    weighed f g same =
        let sum = mapped_sum triple_cmp_total triple_one f id_triple_cmp_total (triple_in terms) g same (means_one terms once) [] triples ordered named
        (λ t q c e none. none_in q none) in
        omega (arith, sum)

    -- what passes a test among the triples is as much as what passes it among those that they mean
    pub counted : (test : IdTriple → Bool) (means : Triple → Bool) → ((t : IdTriple) (q : Triple) → triple_in terms t ≡ Some q → test t ≡ means q)
        → length (filter means (with_all triple_cmp [] (triples_in terms triples))) ≡ length (filter test triples)
    counted test means same =
        let sum = weighed (λ q. cond (means q) 1 0) (λ t. cond (test t) 1 0) (λ t q e. ap (λ b. cond b 1 0) (same t q e)) in
        omega (arith, length-filter means (with_all triple_cmp [] (triples_in terms triples)), sum, length-filter test triples)

    all_pass : {X : Type 0} (xs : List X) → length (filter (λ x. true) xs) ≡ length xs
    all_pass [] = refl
    all_pass (x ∷ xs) = omega (arith, all_pass xs)

    -- the triples are as many as those that they mean
    pub as_many : length (with_all triple_cmp [] (triples_in terms triples)) ≡ length triples
    as_many = sym (all_pass (with_all triple_cmp [] (triples_in terms triples))) ∙ counted (λ t. true) (λ q. true) (λ t q e. refl) ∙ all_pass triples

    -- and no more of them fit patterns of numbers than of these fit the patterns
    pub fit_no_more : (patterns : List Pattern)
        → count_fitting fits_ids triples (filter_map (pattern_in terms) patterns) ≤ count_fitting fits (with_all triple_cmp [] (triples_in terms triples)) patterns
    fit_no_more [] = omega arith
    fit_no_more (pattern ∷ patterns) = at (pattern_in terms pattern) refl (fit_no_more patterns)
      where
        more : count_fitting fits (with_all triple_cmp [] (triples_in terms triples)) (pattern ∷ patterns)
            ≡ length (filter (fits pattern) (with_all triple_cmp [] (triples_in terms triples))) + count_fitting fits (with_all triple_cmp [] (triples_in terms triples)) patterns
        more = sum_by-cons (λ p. length (filter (fits p) (with_all triple_cmp [] (triples_in terms triples)))) pattern patterns

        at : (found : Option IdPattern) → pattern_in terms pattern ≡ found
            → count_fitting fits_ids triples (filter_map (pattern_in terms) patterns) ≤ count_fitting fits (with_all triple_cmp [] (triples_in terms triples)) patterns
            → count_fitting fits_ids triples (cons_option found (filter_map (pattern_in terms) patterns))
            ≤ count_fitting fits (with_all triple_cmp [] (triples_in terms triples)) (pattern ∷ patterns)
        at None h rest = omega (arith, rest, more)
        at (Some ids) h rest = omega (
          arith,
          rest,
          more,
          sum_by-cons (λ p. length (filter (fits_ids p) triples)) ids (filter_map (pattern_in terms) patterns),
          counted (fits_ids ids) (fits pattern) (λ t q k. same_fits pattern ids t q h k),
        )
