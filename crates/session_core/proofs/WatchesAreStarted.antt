-- A watch that is started stands for what was asked, and one that is prepared is told how its answer changes.
use Rattle.std.proofs.Common.{◌≡◌, ◌∙◌, ◌≤◌, ◌<◌, ◌+◌, ℕ, false, ◌&&◌, List, [], ◌∷◌, ◌++◌, length, nat_eq, Contains, Option, Some, None, Result, Ok, Err, IfOk, slice_get, refl, sym, ap, subst, arith, inl, inr}
use Rattle.std.proofs.lemmas.List.Elements.{Contains-append_left, Contains-append_right}
use Rattle.std.specs.List.{IsDistinct}
use Rattle.std.specs.Option.{IsSome}
use Rattle.m3_terms.specs.Order.{term_eq}
use Rattle.m3_terms.specs.declared.memory.NoMemory.{NoMemory}
use Rattle.m3_terms.specs.declared.pattern.Pattern.{Pattern}
use Rattle.m3_terms.specs.declared.pattern.Slot.{Slot}
use Rattle.m3_terms.specs.declared.pattern.Slot.TheVariants.{Any, Is}
use Rattle.m3_terms.specs.declared.table.TermId.{TermId}
use Rattle.m3_terms.specs.declared.term.Term.{Term}
use Rattle.m3_terms.specs.InsertedLaws.{head_in, cons_cases}
use Rattle.triple_index.specs.Changes.{Net}
use Rattle.triple_index.specs.declared.triple.IdTriple.{IdTriple}
use Rattle.sparql_algebra.specs.RowSets.{AreExactly}
use Rattle.sparql_algebra.proofs.Gathered.{none_in}
use Rattle.delta_eval.specs.Standing.{Kept, Changes, AreOf, StandsOver, IsStepOf, IsAfter, StepsTo}
use Rattle.delta_eval.specs.Laws.{TablesMayGrow}
use Rattle.delta_eval.specs.Wanted.{IsWantedOnly, wanted_width, wanted_reads}
use Rattle.delta_eval.specs.declared.wanted.Wanted as kept
use Rattle.answer_bodies.specs.Differences.{is_empty_answer, is_empty_difference}
use Rattle.answer_bodies.specs.Writing.{IsFull}
use Rattle.answer_bodies.specs.declared.answer.Answer.{Answer}
use Rattle.answer_bodies.specs.declared.answer.Difference.{Difference}
use Rattle.sparql_algebra.specs.declared.mapping.Binding.{Binding}
use Rattle.session_core.specs.Following.{difference_over}
use Rattle.session_core.specs.Graph.{terms_of, terms_of_pattern, terms_of_slot}
use Rattle.session_core.specs.Numbers.{Numbers, AreNumbers, CanBeMade, place_of, place_in, pattern_with, pattern_in, graph_of, made}
use Rattle.session_core.specs.Reads.{wanted_cost}
use Rattle.session_core.specs.Subscriptions.{Wanted, answer_over, width_over}
use Rattle.session_core.specs.Watches.{asked_by, wanted_in, with_terms, HaveNumbers, MayBeAnswered, IsAnswerOf, IsAim, IsStarted, IsStepTo, IsPrepared, Stands}
use Rattle.session_core.specs.declared.watch.Watch.{Watch}
use Rattle.session_core.specs.declared.watch.Prepared.TheVariants.{Same, Differs}
use Rattle.session_core.proofs.DifferencesOfRows.{not_empty}
use Rattle.session_core.proofs.NumbersMeanTerms.{number_some}
use Rattle.session_core.proofs.StepsHaveEnds.{step_ends}
use Rattle.session_core.proofs.TermsMayGrow.{graph_stays, still_numbers, stands_still}
use Rattle.session_core.proofs.WatchesTellAnswers.{width_is, reads_are, may_be_answered, answer_is, side_may, side_is, side_empty}

-- ---- templates whose terms have numbers have numbers

module _ (terms : List Term) where
  place_some : (slot : Slot) → ((term : Term) → Contains (terms_of_slot slot) term → Contains terms term) → (place : Option TermId) × (place_in terms slot ≡ Some place)
  place_some Any there = (None, refl)
  place_some (Is term) there = let n = number_some terms term (there term (head_in term [])) in (Some n.0, ap place_of n.1)

  pattern_some : (pattern : Pattern) → ((term : Term) → Contains (terms_of_pattern pattern) term → Contains terms term) → IsSome (pattern_in terms pattern)
  pattern_some pattern there =
      let s = terms_of_slot pattern.subject in
      let p = terms_of_slot pattern.predicate in
      let o = terms_of_slot pattern.object in
      let a = place_some pattern.subject (λ term c. there term (Contains-append_left s (p ++ o) term c)) in
      let b = place_some pattern.predicate (λ term c. there term (Contains-append_right s (p ++ o) term (Contains-append_left p o term c))) in
      let c = place_some pattern.object (λ term c. there term (Contains-append_right s (p ++ o) term (Contains-append_right p o term c))) in
      subst (λ found. IsSome found) (sym (λ i. pattern_with (a.1 i) (b.1 i) (c.1 i))) refl

  pub patterns_some : (patterns : List Pattern) → ((term : Term) → Contains (terms_of patterns) term → Contains terms term) → (pattern : Pattern) → Contains patterns pattern
      → IsSome (pattern_in terms pattern)
  patterns_some [] there pattern c = absurd (none_in pattern c)
  patterns_some (first ∷ patterns) there pattern c = elim (cons_cases first patterns pattern c) [
    | inl e ↦ subst (λ p. IsSome (pattern_in terms p)) e (pattern_some first (λ term d. there term (Contains-append_left (terms_of_pattern first) (terms_of patterns) term d)))
    | inr d ↦ patterns_some patterns (λ term d. there term (Contains-append_right (terms_of_pattern first) (terms_of patterns) term d)) pattern d
  ]

-- ---- a watch that is started

module _ (numbers : Numbers) (more : List Term) (are : AreNumbers numbers) (once : IsDistinct term_eq (numbers.terms ++ more)) (table : List Term) (view : List IdTriple)
    (t : table ≡ numbers.terms ++ more) (v : view ≡ numbers.triples) (wanted : Wanted) (templates : List Pattern) (aim : kept.Wanted) (is : IsAim table wanted templates aim) where
  abbrev grown : Numbers
  grown = with_terms numbers more

  numbered : HaveNumbers grown.terms templates aim
  numbered = subst (λ terms. HaveNumbers terms templates aim) t is.numbered

  width_same : wanted_width (slice_get table) aim view ≡ width_over (graph_of grown) wanted
  width_same = (λ i. wanted_width (slice_get (t i)) aim (v i)) ∙ width_is grown (still_numbers numbers more are once) templates aim numbered ∙ ap (width_over (graph_of grown)) is.is

  -- it stands for what was asked
  pub started : (standing : Kept) → StandsOver (slice_get table) view standing → standing.wanted ≡ aim → wanted_width (slice_get table) aim view ≤ 65536
      → IsStarted grown wanted (record { templates = templates; standing = standing })
  started standing stands w narrow = record {
    stands = record {
      standing = subst (λ triples. StandsOver (slice_get grown.terms) triples standing) v (subst (λ terms. StandsOver (slice_get terms) view standing) t stands);
      numbered = subst (HaveNumbers grown.terms templates) (sym w) numbered;
    };
    wants = ap (asked_by templates) w ∙ is.is;
    narrow = subst (λ n. n ≤ 65536) width_same narrow;
  }

  -- or its width is over the limit
  pub start_wide : 65536 < wanted_width (slice_get table) aim view → 65536 < width_over (graph_of numbers) wanted
  start_wide h = subst (λ n. 65536 < n) (width_same ∙ ap (λ graph. width_over graph wanted) (graph_stays numbers more are)) h

  -- and no more is read than may be
  pub start_reads : (before now : ℕ) → now ≤ before + wanted_reads (slice_get table) aim view → now ≤ before + wanted_cost (graph_of numbers) wanted
  start_reads before now h =
      let most = reads_are grown (still_numbers numbers more are once) templates aim numbered in
      let same : wanted_reads (slice_get table) aim view ≡ wanted_reads (slice_get grown.terms) aim grown.triples = λ i. wanted_reads (slice_get (t i)) aim (v i) in
      let cost : wanted_cost (graph_of grown) (asked_by templates aim) ≡ wanted_cost (graph_of numbers) wanted =
      (λ i. wanted_cost (graph_stays numbers more are i) (is.is i)) in
      omega (arith, most, same, cost, h)

-- ---- the answer of a watch

module _ (numbers : Numbers) (are : AreNumbers numbers) (watch : Watch) (stands : Stands numbers watch) where
  -- its rows may be put into words
  pub watch_may : MayBeAnswered (slice_get numbers.terms) watch.standing.wanted watch.standing.answer.rows
  watch_may = may_be_answered numbers are watch.templates watch.standing.wanted stands.numbered watch.standing.parts watch.standing.answer stands.standing.rows

  -- and are then its answer
  pub watch_answer : (answer : Answer) → IsAnswerOf (slice_get numbers.terms) watch.standing.wanted watch.standing.answer.rows answer
      → answer ≡ answer_over (graph_of numbers) (wanted_in watch)
  watch_answer answer is = answer_is numbers are watch.templates watch.standing.wanted stands.numbered watch.standing.parts watch.standing.answer stands.standing.rows answer is

-- rows may be put into words by an equal table
pub may_moved : (terms table : List Term) (wanted given : kept.Wanted) (rows others : List (List Binding)) → table ≡ terms → given ≡ wanted → others ≡ rows
    → MayBeAnswered (slice_get terms) wanted rows → MayBeAnswered (slice_get table) given others
may_moved terms table wanted given rows others t w r may =
    subst (λ l. MayBeAnswered (slice_get l) given others) (sym t)
    (subst (λ w. MayBeAnswered (slice_get terms) w others) (sym w) (subst (λ l. MayBeAnswered (slice_get terms) wanted l) (sym r) may))

pub of_moved : (terms table : List Term) (wanted given : kept.Wanted) (rows others : List (List Binding)) (answer : Answer) → table ≡ terms → given ≡ wanted → others ≡ rows
    → IsAnswerOf (slice_get table) given others answer → IsAnswerOf (slice_get terms) wanted rows answer
of_moved terms table wanted given rows others answer t w r of =
    subst (λ l. IsAnswerOf (slice_get terms) wanted l answer) r
    (subst (λ w. IsAnswerOf (slice_get terms) w others answer) w (subst (λ l. IsAnswerOf (slice_get l) given others answer) t of))

-- the answer of a watch whose new terms are in a draft
pub watch_answers : (numbers : Numbers) (more table : List Term) (are : AreNumbers numbers) → IsDistinct term_eq (numbers.terms ++ more) → (watch : Watch)
    → Stands (with_terms numbers more) watch → (given : kept.Wanted) (others : List (List Binding)) → table ≡ numbers.terms ++ more → given ≡ watch.standing.wanted
    → others ≡ watch.standing.answer.rows → (r : Result Answer NoMemory) → IfOk r (IsAnswerOf (slice_get table) given others)
    → IfOk r (λ answer. answer ≡ answer_over (graph_of numbers) (wanted_in watch))
watch_answers numbers more table are once watch stands given others t w r (Ok answer) of =
    watch_answer (with_terms numbers more) (still_numbers numbers more are once) watch stands answer
    (of_moved (numbers.terms ++ more) table watch.standing.wanted given watch.standing.answer.rows others answer t w r of)
    ∙ ap (λ graph. answer_over graph (wanted_in watch)) (graph_stays numbers more are)
watch_answers numbers more table are once watch stands given others t w r (Err refused) of = tt

-- ---- a watch that is prepared

module _ (grow : TablesMayGrow) (old : Numbers) (more : List Term) (change : Net) (are : AreNumbers old) (can : CanBeMade old more change) (watch : Watch) (stands : Stands old watch) where
  abbrev new : Numbers
  new = made old more change

  abbrev named_before : Numbers
  named_before = with_terms old more

  are_before : AreNumbers named_before
  are_before = still_numbers old more are can.numbers.once

  stands_before : Stands named_before watch
  stands_before = stands_still old more are grow watch stands

  numbered_now : HaveNumbers new.terms watch.templates watch.standing.wanted
  numbered_now = stands_before.numbered

  pub prepare_width : wanted_width (slice_get new.terms) watch.standing.wanted new.triples ≡ width_over (graph_of new) (wanted_in watch)
  prepare_width = width_is new can.numbers watch.templates watch.standing.wanted numbered_now

  pub prepare_reads : wanted_reads (slice_get new.terms) watch.standing.wanted new.triples ≤ wanted_cost (graph_of new) (wanted_in watch)
  prepare_reads = reads_are new can.numbers watch.templates watch.standing.wanted numbered_now

  -- it stands over the numbers with the new terms
  pub prepare_stands : StandsOver (slice_get new.terms) old.triples watch.standing
  prepare_stands = stands_before.standing

  -- a step of its standing query is one to the new numbers
  pub step_to : (step : Changes) → IsStepOf watch.standing step → StepsTo (slice_get new.terms) new.triples watch.standing step
      → AreExactly (IsWantedOnly (slice_get new.terms) watch.standing.wanted new.triples old.triples) step.answer.added.rows
      → AreExactly (IsWantedOnly (slice_get new.terms) watch.standing.wanted old.triples new.triples) step.answer.obsolete.rows
      → wanted_width (slice_get new.terms) watch.standing.wanted new.triples ≤ 65536 → IsStepTo old new watch step
  step_to step of to added obsolete narrow = record {
    leads = record { step_of = of; after = to; numbered = numbered_now };
    narrow = subst (λ n. n ≤ 65536) prepare_width narrow;
    added = added;
    obsolete = obsolete;
  }

  -- a step that is told by equal tables and views
  abbrev Tells : Changes → List Term → List IdTriple → List IdTriple → Type 0
  Tells step table before now = StepsTo (slice_get table) now watch.standing step
      → AreExactly (IsWantedOnly (slice_get table) watch.standing.wanted now before) step.answer.added.rows
      → AreExactly (IsWantedOnly (slice_get table) watch.standing.wanted before now) step.answer.obsolete.rows
      → wanted_width (slice_get table) watch.standing.wanted now ≤ 65536 → IsStepTo old new watch step

  pub step_moved : (table : List Term) (before now : List IdTriple) → table ≡ new.terms → before ≡ old.triples → now ≡ new.triples → (step : Changes)
      → IsStepOf watch.standing step → Tells step table before now
  step_moved table before now t b n step of =
      subst (λ table. Tells step table before now) (sym t) (subst (λ before. Tells step new.terms before now) (sym b)
      (subst (λ now. Tells step new.terms old.triples now) (sym n) (step_to step of)))

  pub stands_moved : (table : List Term) (before : List IdTriple) → table ≡ new.terms → before ≡ old.triples → StandsOver (slice_get table) before watch.standing
  stands_moved table before t b = subst (λ table. StandsOver (slice_get table) before watch.standing) (sym t)
      (subst (λ before. StandsOver (slice_get new.terms) before watch.standing) (sym b) prepare_stands)

  pub wide_moved : (table : List Term) (now : List IdTriple) → table ≡ new.terms → now ≡ new.triples → 65536 < wanted_width (slice_get table) watch.standing.wanted now
      → 65536 < width_over (graph_of new) (wanted_in watch)
  wide_moved table now t n h = subst (λ width. 65536 < width) ((λ i. wanted_width (slice_get (t i)) watch.standing.wanted (n i)) ∙ prepare_width) h

  pub reads_moved : (table : List Term) (now : List IdTriple) (first last : ℕ) → table ≡ new.terms → now ≡ new.triples
      → last ≤ first + wanted_reads (slice_get table) watch.standing.wanted now → last ≤ first + wanted_cost (graph_of new) (wanted_in watch)
  reads_moved table now first last t n h =
      let most = prepare_reads in
      let same : wanted_reads (slice_get table) watch.standing.wanted now ≡ wanted_reads (slice_get new.terms) watch.standing.wanted new.triples =
      λ i. wanted_reads (slice_get (t i)) watch.standing.wanted (n i) in
      omega (arith, h, same, most)

  module _ (step : Changes) (to : IsStepTo old new watch step) where
    after : (standing : Kept) × IsAfter watch.standing step standing
    after = step_ends watch.standing step to.leads.step_of

    stands_after : StandsOver (slice_get new.terms) new.triples after.0
    stands_after = to.leads.after after.0 after.1

    abbrev own : kept.Wanted
    own = watch.standing.wanted

    abbrev change_now : Difference
    change_now = difference_over (graph_of old) (graph_of new) (wanted_in watch)

    rows_after : AreOf (slice_get new.terms) new.triples own after.0.parts after.0.answer
    rows_after = subst (λ wanted. AreOf (slice_get new.terms) new.triples wanted after.0.parts after.0.answer) after.1.wanted stands_after.rows

    -- the rows of both sides may be put into words
    pub added_may : MayBeAnswered (slice_get new.terms) own step.answer.added.rows
    added_may = side_may new.terms new.triples old.triples can.numbers are_before watch.templates own after.0.parts after.0.answer rows_after step.answer.added.rows to.added

    pub obsolete_may : MayBeAnswered (slice_get new.terms) own step.answer.obsolete.rows
    obsolete_may = side_may new.terms old.triples new.triples are_before can.numbers watch.templates own watch.standing.parts watch.standing.answer
        stands_before.standing.rows step.answer.obsolete.rows to.obsolete

    -- and are then the sides of the difference
    added_is : (answer : Answer) → IsAnswerOf (slice_get new.terms) own step.answer.added.rows answer → answer ≡ change_now.added
    added_is answer of =
        side_is new.terms new.triples old.triples can.numbers are_before watch.templates step.answer.added.rows own numbered_now after.0.parts watch.standing.parts
        after.0.answer watch.standing.answer rows_after stands_before.standing.rows to.added answer of
        ∙ ap (λ graph. (difference_over graph (graph_of new) (wanted_in watch)).added) (graph_stays old more are)

    obsolete_is : (answer : Answer) → IsAnswerOf (slice_get new.terms) own step.answer.obsolete.rows answer → answer ≡ change_now.obsolete
    obsolete_is answer of =
        side_is new.terms old.triples new.triples are_before can.numbers watch.templates step.answer.obsolete.rows own numbered_now watch.standing.parts after.0.parts
        watch.standing.answer after.0.answer stands_before.standing.rows rows_after to.obsolete answer of
        ∙ ap (λ graph. (difference_over graph (graph_of new) (wanted_in watch)).obsolete) (graph_stays old more are)

    -- which are empty where there are no rows
    empty_is : is_empty_difference change_now ≡ (nat_eq (length step.answer.added.rows) 0 && nat_eq (length step.answer.obsolete.rows) 0)
    empty_is =
        let added = sym (ap (λ graph. is_empty_answer (difference_over graph (graph_of new) (wanted_in watch)).added) (graph_stays old more are))
        ∙ side_empty new.terms new.triples old.triples can.numbers are_before watch.templates step.answer.added.rows own numbered_now after.0.parts watch.standing.parts
        after.0.answer watch.standing.answer rows_after stands_before.standing.rows to.added in
        let obsolete = sym (ap (λ graph. is_empty_answer (difference_over graph (graph_of new) (wanted_in watch)).obsolete) (graph_stays old more are))
        ∙ side_empty new.terms old.triples new.triples are_before can.numbers watch.templates step.answer.obsolete.rows own numbered_now watch.standing.parts after.0.parts
        watch.standing.answer after.0.answer stands_before.standing.rows rows_after to.obsolete in
        λ i. added i && obsolete i

    -- no row is new and none obsolete, so the answer stays
    pub prepared_same : step.answer.added.rows ≡ [] → step.answer.obsolete.rows ≡ [] → IsPrepared old new watch (Same step)
    prepared_same a o = (to.narrow, to.leads, empty_is ∙ (λ i. nat_eq (length (a i)) 0 && nat_eq (length (o i)) 0))

    not_both : (rows others : List (List Binding)) → (rows ≡ [] → others ≡ [] → ⊥) → (nat_eq (length rows) 0 && nat_eq (length others) 0) ≡ false
    not_both [] [] h = absurd (h refl refl)
    not_both [] (row ∷ others) h = not_empty row others
    not_both (row ∷ rows) others h = ap (λ b. b && nat_eq (length others) 0) (not_empty row rows)

    -- or some row is
    pub prepared_differs : (added obsolete : Answer) → (step.answer.added.rows ≡ [] → step.answer.obsolete.rows ≡ [] → ⊥)
        → IsAnswerOf (slice_get new.terms) own step.answer.added.rows added → IsFull added
        → IsAnswerOf (slice_get new.terms) own step.answer.obsolete.rows obsolete → IsFull obsolete
        → IsPrepared old new watch (Differs step (record { added = added; obsolete = obsolete }))
    prepared_differs added obsolete some a f o g = (
      to.narrow,
      to.leads,
      (λ i. record { added = added_is added a i; obsolete = obsolete_is obsolete o i }),
      empty_is ∙ not_both step.answer.added.rows step.answer.obsolete.rows some,
      f,
      g,
    )
