-- What a net change is made of, and what it makes of a graph.
use Rattle.std.proofs.Common.{◌≡◌, ℕ, ◌+◌, ◌≤◌, ◌⊎◌, Bool, true, false, List, [], ◌∷◌, ◌++◌, ◌||◌, ◌<◌, length, get_or, take, filter, Contains, refl, sym, ap, subst, ◌∙◌, inl, inr, arith}
use Rattle.std.proofs.lemmas.Bool.{true≢false, false_from_ne_true, or_cases, or_left, or_right}
use Rattle.std.proofs.Math.Bool.{or-false}
use Rattle.std.proofs.lemmas.List.Kept.{IsStrictlySortedBy-dedup, Contains-dedup, Contains-from_dedup}
use Rattle.std.proofs.lemmas.List.{take_more, take_all}
use Rattle.std.proofs.lemmas.List.Elements.{All-contains, filter_passes, Contains-append_left, Contains-append_right, Contains-append_cases}
use Rattle.std.proofs.lemmas.List.Folds.{list_any-append}
use Rattle.std.proofs.lemmas.List.Sorted.{Contains-permutation, IsPermutation-sym, length_permutation}
use Rattle.std.proofs.lemmas.List.Sums.{sum_by_more, sum_by-take-le}
use Rattle.std.specs.List.{dedup}
use Rattle.std.specs.List.Sorted.{IsSorted, IsPermutation, IsStrictlySortedBy}
use mathlib.Core.Logic.{⊎_elim}
use Rattle.triple_index.specs.Changes.{AreOrdered, IsNet, changed}
use Rattle.triple_index.specs.Fits.{fits}
use Rattle.m3_terms.specs.InsertedLaws.{was_there, is_kept}
use Rattle.triple_index.specs.Graphs.{fits_one, without, after, count_fitting}
use Rattle.triple_index.specs.GraphLaws.{none_in, found_among, is_found, without_has, sorted_same, after_ordered, after_has}
use Rattle.triple_index.specs.IdOrder.{id_triple_cmp, id_triple_eq}
use Rattle.triple_index.specs.IdOrderLaws.{id_triple_cmp_total, id_triple_one, id_triple_exact, id_triple_ties, id_triple_eq_equiv}
use Rattle.triple_index.specs.Parts.{HasSame, IsRest, HasFitting}
use Rattle.triple_index.specs.declared.triple.IdTriple.{IdTriple}
use Rattle.triple_index.specs.declared.triple.IdPattern.{IdPattern}

pub nil_ordered : AreOrdered []
unfolding IsStrictlySortedBy
nil_ordered = tt

-- no triples are in order
pub none_ordered : (triples : List IdTriple) → triples ≡ [] → AreOrdered triples
none_ordered triples e = subst AreOrdered (sym e) nil_ordered

-- triples that are sorted, of which equal ones are dropped, are in order, each once
pub dedup_ordered : (sorted left : List IdTriple) → IsSorted id_triple_cmp sorted → left ≡ dedup id_triple_eq sorted → AreOrdered left
dedup_ordered sorted left s e = subst AreOrdered (sym e) (IsStrictlySortedBy-dedup id_triple_cmp_total id_triple_ties sorted s)

-- and they are the same triples
pub dedup_same : (triples sorted left : List IdTriple) → IsPermutation triples sorted → left ≡ dedup id_triple_eq sorted → HasSame triples left
dedup_same triples sorted left p e =
    let one : (s t : IdTriple) → id_triple_eq s t ≡ true → s ≡ t = λ s t. (id_triple_exact s t).0 in
    subst (HasSame triples) (sym e) (λ q. (
      λ c. Contains-permutation sorted triples q (IsPermutation-sym triples sorted p) (Contains-from_dedup id_triple_eq sorted q c),
      λ c. Contains-dedup id_triple_eq_equiv one sorted q (Contains-permutation triples sorted q p c),
    ))

-- what is not found is not there
pub not_among : (others : List IdTriple) (q : IdTriple) → fits_one id_triple_eq others q ≡ false → Contains others q → ⊥
not_among others q h c = true≢false (sym (found_among id_triple_eq id_triple_exact others q c) ∙ h)

-- what is not there is not found
pub not_found : (others : List IdTriple) (q : IdTriple) → (Contains others q → ⊥) → fits_one id_triple_eq others q ≡ false
not_found others q h = false_from_ne_true (fits_one id_triple_eq others q) (λ t. h (is_found id_triple_eq id_triple_exact others q t))

-- triples without others, as a list, are the triples that are not among the others
pub without_rest : (triples others : List IdTriple) → IsRest triples others (without id_triple_eq triples others)
without_rest triples others q =
    let has = without_has id_triple_eq triples others q in
    (λ c. ((has.0 c).0, not_among others q (has.0 c).1), λ h. has.1 (h.0, not_found others q h.1))

-- the triples of an update that fit and are not wanted, and the wanted ones that are new, are a change that is net
pub parts_net : (graph read wanted removed inserted : List IdTriple) (remove : List IdPattern)
    → HasFitting graph remove read → IsRest read wanted removed → IsRest wanted graph inserted
    → IsNet graph (record { removed = removed; inserted = inserted })
parts_net graph read wanted removed inserted remove f r i = record {
  removed_there = λ t c. ((f t).0 ((r t).0 c).0).0;
  inserted_new = λ t c. ((i t).0 c).1;
}

-- what is in the graph after the change is in it after the update
from_change : (graph read wanted removed inserted insert : List IdTriple) (remove : List IdPattern)
    → HasFitting graph remove read → HasSame insert wanted → IsRest read wanted removed → IsRest wanted graph inserted
    → (q : IdTriple) → (Contains graph q × (fits_one id_triple_eq removed q ≡ false)) ⊎ Contains inserted q
    → (wants : Bool) → fits_one id_triple_eq wanted q ≡ wants
    → (Contains graph q × (fits_one fits remove q ≡ false)) ⊎ Contains insert q
from_change graph read wanted removed inserted insert remove f w r i q (inr c) wants e = inr ((w q).0 ((i q).0 c).0)
from_change graph read wanted removed inserted insert remove f w r i q (inl h) true e = inr ((w q).0 (is_found id_triple_eq id_triple_exact wanted q e))
from_change graph read wanted removed inserted insert remove f w r i q (inl h) false e = inl (
  h.0,
  false_from_ne_true (fits_one fits remove q)
      (λ t. not_among removed q h.1 ((r q).1 ((f q).1 (h.0, t), not_among wanted q e))),
)

-- what is in the graph after the update is in it after the change
to_change : (graph read wanted removed inserted insert : List IdTriple) (remove : List IdPattern)
    → HasFitting graph remove read → HasSame insert wanted → IsRest read wanted removed → IsRest wanted graph inserted
    → (q : IdTriple) → (Contains graph q × (fits_one fits remove q ≡ false)) ⊎ Contains insert q
    → (there : Bool) → fits_one id_triple_eq graph q ≡ there
    → (Contains graph q × (fits_one id_triple_eq removed q ≡ false)) ⊎ Contains inserted q
to_change graph read wanted removed inserted insert remove f w r i q (inl h) there e =
    inl (h.0, not_found removed q (λ c. true≢false (sym ((f q).0 ((r q).0 c).0).1 ∙ h.1)))
to_change graph read wanted removed inserted insert remove f w r i q (inr c) true e =
    inl (is_found id_triple_eq id_triple_exact graph q e, not_found removed q (λ d. ((r q).0 d).1 ((w q).1 c)))
to_change graph read wanted removed inserted insert remove f w r i q (inr c) false e = inr ((i q).1 ((w q).1 c, not_among graph q e))

-- and it makes the graph after the update
pub parts_after : (graph read wanted removed inserted insert : List IdTriple) (remove : List IdPattern) → AreOrdered graph
    → HasFitting graph remove read → HasSame insert wanted → IsRest read wanted removed → IsRest wanted graph inserted
    → changed graph (record { removed = removed; inserted = inserted }) ≡ after id_triple_cmp fits graph remove insert
parts_after graph read wanted removed inserted insert remove s f w r i =
    let mine = after_has id_triple_cmp_total id_triple_one id_triple_eq graph removed inserted in
    let due = after_has id_triple_cmp_total id_triple_one fits graph remove insert in
    sorted_same id_triple_cmp_total _ _
    (after_ordered id_triple_cmp_total id_triple_one id_triple_eq graph removed inserted s)
    (after_ordered id_triple_cmp_total id_triple_one fits graph remove insert s)
    (λ q c. (due q).1 (from_change graph read wanted removed inserted insert remove f w r i q ((mine q).0 c) _ refl))
    (λ q c. (mine q).1 (to_change graph read wanted removed inserted insert remove f w r i q ((due q).0 c) _ refl))

-- ---- what is read

-- what a test keeps passes it
pub kept_passes : {X : Type 0} (test : X → Bool) (xs : List X) (q : X) → Contains (filter test xs) q → test q ≡ true
kept_passes test xs q c = All-contains (λ x. test x ≡ true) (filter test xs) q (filter_passes test xs) c

-- an item fits one of some patterns and one more where it fits one of them or that one
pub fits_more : (patterns : List IdPattern) (pattern : IdPattern) (t : IdTriple)
    → fits_one fits (patterns ++ pattern ∷ []) t ≡ (fits_one fits patterns t || fits pattern t)
fits_more patterns pattern t = list_any-append (λ p. fits p t) patterns (pattern ∷ []) ∙ ap (λ b. fits_one fits patterns t || b) (or-false (fits pattern t))

-- nothing fits no patterns
pub fitting_none : (graph read : List IdTriple) → read ≡ [] → HasFitting graph [] read
fitting_none graph read e = λ t. (λ c. absurd (none_in t (subst (λ l. Contains l t) e c)), λ h. absurd (true≢false (sym h.1)))

-- the rows of one more pattern are behind those of the patterns before it
pub fitting_more : (graph read rows more : List IdTriple) (patterns : List IdPattern) (pattern : IdPattern) → HasFitting graph patterns read
    → IsPermutation (filter (fits pattern) graph) rows → more ≡ read ++ rows → HasFitting graph (patterns ++ pattern ∷ []) more
fitting_more graph read rows more patterns pattern f p e = subst (HasFitting graph (patterns ++ pattern ∷ [])) (sym e) (λ t. (
  λ c. ⊎_elim
      (λ old. (((f t).0 old).0, fits_more patterns pattern t ∙ or_left (fits_one fits patterns t) (fits pattern t) ((f t).0 old).1))
      (λ new.
      let kept = Contains-permutation rows (filter (fits pattern) graph) t (IsPermutation-sym _ rows p) new in
      (was_there (fits pattern) graph t kept, fits_more patterns pattern t ∙ or_right (fits_one fits patterns t) (fits pattern t) (kept_passes (fits pattern) graph t kept)))
      (Contains-append_cases read rows t c),
  λ h. ⊎_elim
      (λ old. Contains-append_left read rows t ((f t).1 (h.0, old)))
      (λ new. Contains-append_right read rows t (Contains-permutation (filter (fits pattern) graph) rows t p (is_kept (fits pattern) graph t new h.0)))
      (or_cases (fits_one fits patterns t) (fits pattern t) (sym (fits_more patterns pattern t) ∙ h.1)),
))

-- the same where the patterns are those up to a place
pub fitting_at : (graph view read rows more : List IdTriple) (patterns : List IdPattern) (at : ℕ) (d : IdPattern) → at < length patterns
    → view ≡ graph → HasFitting graph (take at patterns) read → IsPermutation (filter (fits (get_or patterns at d)) view) rows
    → more ≡ read ++ rows → HasFitting graph (take (at + 1) patterns) more
fitting_at graph view read rows more patterns at d within seen f p e =
    let pattern = get_or patterns at d in
    let q : IsPermutation (filter (fits pattern) graph) rows = subst (λ l. IsPermutation (filter (fits pattern) l) rows) seen p in
    subst (λ ps. HasFitting graph ps more) (sym (take_more patterns at d within)) (fitting_more graph read rows more (take at patterns) pattern f q e)

-- what was read before and the rows of one more pattern are within the rows of the patterns up to it
pub reads_at : (graph view rows : List IdTriple) (patterns : List IdPattern) (at : ℕ) (d : IdPattern) (old before after : ℕ) → at < length patterns
    → view ≡ graph → before ≤ old + count_fitting fits graph (take at patterns) → IsPermutation (filter (fits (get_or patterns at d)) view) rows
    → after ≤ before + length rows → after ≤ old + count_fitting fits graph (take (at + 1) patterns)
reads_at graph view rows patterns at d old before after within seen b p a =
    let pattern = get_or patterns at d in
    let q : IsPermutation (filter (fits pattern) graph) rows = subst (λ l. IsPermutation (filter (fits pattern) l) rows) seen p in
    let many = length_permutation (filter (fits pattern) graph) rows q in
    let more = sum_by_more (λ p. length (filter (fits p) graph)) patterns at d within in
    omega (arith, many, more, a, b)

-- and within those of all patterns
pub reads_within : (graph : List IdTriple) (patterns : List IdPattern) (at old after : ℕ)
    → after ≤ old + count_fitting fits graph (take at patterns) → after ≤ old + count_fitting fits graph patterns
reads_within graph patterns at old after a =
    let part = sum_by-take-le (λ p. length (filter (fits p) graph)) patterns at in
    omega (arith, part, a)

-- all patterns are those up to their number
pub fitting_all : (graph read : List IdTriple) (patterns : List IdPattern) (at : ℕ) → length patterns ≤ at → HasFitting graph (take at patterns) read
    → HasFitting graph patterns read
fitting_all graph read patterns at past f = subst (λ ps. HasFitting graph ps read) (take_all at patterns past) f

-- ---- the whole change

-- triples that are the same as those read fit as they do
fitting_same : (graph read sorted : List IdTriple) (patterns : List IdPattern) → HasFitting graph patterns read → HasSame read sorted
    → HasFitting graph patterns sorted
fitting_same graph read sorted patterns f w = λ t. (λ c. (f t).0 ((w t).0 c), λ h. (w t).1 ((f t).1 h))

-- what the code has: the triples that were read for the patterns and put in order, and the wanted ones put in order; of each what
-- is not among the others
pub record IsMade (graph insert removed inserted : List IdTriple) (remove : List IdPattern) : Type 0 where
  pub read : List IdTriple
  pub sorted : List IdTriple
  pub wanted : List IdTriple
  pub ordered : AreOrdered graph
  pub fitting : HasFitting graph remove read
  pub same : HasSame read sorted
  pub wants : HasSame insert wanted
  pub goes : IsRest sorted wanted removed
  pub comes : IsRest wanted graph inserted

-- the change is net
pub made_net : (graph insert removed inserted : List IdTriple) (remove : List IdPattern) → IsMade graph insert removed inserted remove
    → IsNet graph (record { removed = removed; inserted = inserted })
made_net graph insert removed inserted remove m =
    parts_net graph m.sorted m.wanted removed inserted remove (fitting_same graph m.read m.sorted remove m.fitting m.same) m.goes m.comes

-- and makes the graph after the update
pub made_after : (graph insert removed inserted : List IdTriple) (remove : List IdPattern) → IsMade graph insert removed inserted remove
    → changed graph (record { removed = removed; inserted = inserted }) ≡ after id_triple_cmp fits graph remove insert
made_after graph insert removed inserted remove m =
    parts_after graph m.sorted m.wanted removed inserted insert remove m.ordered (fitting_same graph m.read m.sorted remove m.fitting m.same) m.wants m.goes m.comes
