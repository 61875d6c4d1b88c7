-- What stands over numbers stands over them with more terms, and their graph is the same.
use Rattle.std.proofs.Common.{◌≡◌, ◌∙◌, ℕ, ◌+◌, Bool, true, false, List, [], ◌∷◌, ◌++◌, filter_map, Contains, Option, Some, None, slice_get, if◌then◌else◌, refl, sym, ap, subst}
use Rattle.std.specs.List.{IsDistinct, cons_option}
use Rattle.std.specs.Option.{IsSome}
use Rattle.m3_terms.specs.InsertedLaws.{head_in, tail_in}
use Rattle.m3_terms.specs.Order.{term_eq, triple_cmp}
use Rattle.m3_terms.specs.declared.pattern.Pattern.{Pattern}
use Rattle.m3_terms.specs.declared.pattern.Slot.{Slot}
use Rattle.m3_terms.specs.declared.pattern.Slot.TheVariants.{Any, Is}
use Rattle.m3_terms.specs.declared.table.TermId.{TermId}
use Rattle.m3_terms.specs.declared.term.Term.{Term}
use Rattle.m3_intern.proofs.Positions.{longer_extends}
use Rattle.triple_index.specs.Graphs.{with_all}
use Rattle.delta_eval.specs.Laws.{TablesMayGrow}
use Rattle.delta_eval.specs.declared.wanted.Wanted as kept
use Rattle.session_core.specs.Numbers.{Numbers, AreNumbers, number_from, number_in, place_of, place_in, pattern_with, pattern_in, graph_of}
use Rattle.session_core.specs.Watches.{HaveNumbers, Stands, with_terms}
use Rattle.session_core.specs.declared.watch.Watch.{Watch}
use Rattle.session_core.proofs.NumbersFollow.{meant, is_meant, triples_still}
use Rattle.session_core.proofs.NumbersMeanTerms.{means_still}

module _ (more : List Term) where
  -- a term keeps its number
  number_stays : (first : ℕ) (terms : List Term) (term : Term) (id : TermId) → number_from first terms term ≡ Some id → number_from first (terms ++ more) term ≡ Some id
  number_stays first [] term id h = absurd (cc)
  number_stays first (other ∷ terms) term id h = at (term_eq term other) (number_stays (first + 1) terms term id) h
    where
      at : (same : Bool) → (number_from (first + 1) terms term ≡ Some id → number_from (first + 1) (terms ++ more) term ≡ Some id)
          → (if same then Some (record { 0 = first }) else number_from (first + 1) terms term) ≡ Some id
          → (if same then Some (record { 0 = first }) else number_from (first + 1) (terms ++ more) term) ≡ Some id
      at true later h = h
      at false later h = later h

  module _ (terms : List Term) where
    place_stays : (slot : Slot) (place : Option TermId) → place_in terms slot ≡ Some place → place_in (terms ++ more) slot ≡ place_in terms slot
    place_stays Any place h = refl
    place_stays (Is term) place h = at (number_in terms term) refl h
      where
        at : (found : Option TermId) → number_in terms term ≡ found → place_of found ≡ Some place → place_of (number_in (terms ++ more) term) ≡ place_of (number_in terms term)
        at None e p = absurd (cc)
        at (Some id) e p = ap place_of (number_stays 0 terms term id e ∙ sym e)

    -- a pattern keeps its numbers
    pattern_stays : (pattern : Pattern) → IsSome (pattern_in terms pattern) → pattern_in (terms ++ more) pattern ≡ pattern_in terms pattern
    pattern_stays pattern some =
        at (place_in terms pattern.subject) (place_in terms pattern.predicate) (place_in terms pattern.object) refl refl refl some
      where
        at : (s p o : Option (Option TermId)) → place_in terms pattern.subject ≡ s → place_in terms pattern.predicate ≡ p → place_in terms pattern.object ≡ o
            → IsSome (pattern_with s p o) → pattern_in (terms ++ more) pattern ≡ pattern_in terms pattern
        at None p o a b c some = absurd (cc)
        at (Some s) None o a b c some = absurd (cc)
        at (Some s) (Some p) None a b c some = absurd (cc)
        at (Some s) (Some p) (Some o) a b c some = λ i.
            pattern_with (place_stays pattern.subject s a i) (place_stays pattern.predicate p b i) (place_stays pattern.object o c i)

    patterns_stay : (patterns : List Pattern) → ((pattern : Pattern) → Contains patterns pattern → IsSome (pattern_in terms pattern))
        → filter_map (pattern_in (terms ++ more)) patterns ≡ filter_map (pattern_in terms) patterns
    patterns_stay [] each = refl
    patterns_stay (pattern ∷ patterns) each =
        let first = pattern_stays pattern (each pattern (head_in pattern patterns)) in
        let rest = patterns_stay patterns (λ other c. each other (tail_in pattern patterns other c)) in
        λ i. cons_option (first i) (rest i)

    -- templates keep their numbers
    pub numbers_stay : (templates : List Pattern) (wanted : kept.Wanted) → HaveNumbers terms templates wanted → HaveNumbers (terms ++ more) templates wanted
    numbers_stay templates (kept.TheVariants.Templates ids) h = (
      h.0 ∙ sym (patterns_stay templates h.1),
      λ template c. subst (λ found. IsSome found) (sym (pattern_stays template (h.1 template c))) (h.1 template c),
    )
    numbers_stay templates (kept.TheVariants.Select query) h = tt

module _ (numbers : Numbers) (more : List Term) (are : AreNumbers numbers) where
  -- the graph is the same
  pub graph_stays : graph_of (with_terms numbers more) ≡ graph_of numbers
  unfolding graph_of
  graph_stays = ap (λ triples. with_all triple_cmp [] triples) (triples_still numbers.terms more numbers.triples are.named)

  -- they are numbers of a graph
  pub still_numbers : IsDistinct term_eq (numbers.terms ++ more) → AreNumbers (with_terms numbers more)
  still_numbers once = record {
    once = once;
    ordered = are.ordered;
    named = λ t c. let m = meant numbers.terms t (are.named t c) in is_meant (numbers.terms ++ more) t m.0 (means_still numbers.terms more t m.0 m.1);
  }

  -- a watch stands over them
  pub stands_still : TablesMayGrow → (watch : Watch) → Stands numbers watch → Stands (with_terms numbers more) watch
  stands_still grow watch stands = record {
    standing = grow (slice_get numbers.terms) (slice_get (numbers.terms ++ more)) (longer_extends numbers.terms more) numbers.triples are.named watch.standing stands.standing;
    numbered = numbers_stay more numbers.terms watch.templates watch.standing.wanted stands.numbered;
  }
