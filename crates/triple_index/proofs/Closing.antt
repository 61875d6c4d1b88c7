-- Triples taken out of a list in place.
use Rattle.std.proofs.Common.{◌≡◌, ℕ, ◌+◌, ◌<◌, ◌≤◌, Bool, true, false, not, List, [], ◌∷◌, ◌++◌, length, get_or, set, take, drop, filter, Contains, refl, sym, ap, subst, ◌∙◌, arith, add-zero}
use Rattle.std.proofs.lemmas.Bool.{false_from_ne_true}
use Rattle.std.proofs.lemmas.List.{take-append-drop, drop_more, get_or-drop, nil_from_length}
use Rattle.std.proofs.lemmas.List.Elements.{All-contains, All-head, All-tail, filter_passes, filter-append}
use Rattle.std.proofs.lemmas.List.Filters.{FiltersInPlace, FiltersInPlace-more_no, FiltersInPlace-more_set, FiltersInPlace-all}
use Rattle.std.proofs.lemmas.List.Kept.{IsStrictlySortedBy-filter}
use Rattle.std.proofs.lemmas.Map.Views.{All-after_first}
use Rattle.std.specs.List.{All}
use Rattle.std.specs.List.Sorted.{IsPartitionPoint}
use Rattle.std.specs.Ordering.{is_lt}
use Rattle.std.specs.declared.cmp.Ordering.{Ordering}
use Rattle.std.specs.declared.cmp.Ordering.TheVariants.{Less, Equal, Greater}
use mathlib.Core.Logic.{⊎_elim}
use Rattle.m3_terms.specs.InsertedLaws.{is_kept, cons_cases}
use Rattle.triple_index.specs.Changes.{AreOrdered}
use Rattle.triple_index.specs.Graphs.{fits_one, without}
use Rattle.triple_index.specs.GraphLaws.{found_among, is_found, sorted_same, not_below_itself}
use Rattle.triple_index.specs.IdOrder.{id_triple_cmp, id_triple_eq}
use Rattle.triple_index.specs.IdOrderLaws.{id_triple_cmp_total, id_triple_exact}
use Rattle.triple_index.specs.declared.triple.IdTriple.{IdTriple}
use Rattle.triple_index.proofs.Nets.{not_found}
use Rattle.triple_index.proofs.Ranges.{none_kept, All-before}

-- a triple is removed
abbrev pub goes : List IdTriple → IdTriple → Bool
goes removed triple = fits_one id_triple_eq removed triple

-- a triple stays
abbrev pub stays : List IdTriple → IdTriple → Bool
stays removed triple = not (goes removed triple)

-- triples up to a place were looked at: those that stay stand in front, and these of the removed ones are still to come
pub record IsClosing (old now removed left : List IdTriple) (kept at : ℕ) : Type 0 where
  pub keeps : FiltersInPlace (stays removed) old now kept at
  pub coming : left ≡ filter (goes removed) (drop at old)

-- a test that passes everywhere keeps all
pub all_kept : {X : Type 0} (test : X → Bool) (xs : List X) → All (λ x. test x ≡ true) xs → filter test xs ≡ xs
all_kept test [] h = refl
all_kept test (x ∷ xs) h = rw (All-head (λ x. test x ≡ true) x xs h) (ap (λ l. x ∷ l) (all_kept test xs (All-tail (λ x. test x ≡ true) x xs h)))

-- triples in order that are among others are what the test for them keeps of the others
removed_is : (old removed : List IdTriple) → AreOrdered old → AreOrdered removed → ((t : IdTriple) → Contains removed t → Contains old t)
    → removed ≡ filter (goes removed) old
removed_is old removed s r there = sorted_same id_triple_cmp_total removed (filter (goes removed) old) r
    (IsStrictlySortedBy-filter id_triple_cmp (goes removed) old s)
    (λ q c. is_kept (goes removed) old q (found_among id_triple_eq id_triple_exact removed q c) (there q c))
    (λ q c. is_found id_triple_eq id_triple_exact removed q
    (All-contains (λ x. goes removed x ≡ true) (filter (goes removed) old) q (filter_passes (goes removed) old) c))

-- what is below the first of triples in order is none of them
below_absent : (first : IdTriple) (rest : List IdTriple) (x : IdTriple) → AreOrdered (first ∷ rest) → id_triple_cmp x first ≡ Less
    → goes (first ∷ rest) x ≡ false
below_absent first rest x s h = not_found (first ∷ rest) x (λ c. ⊎_elim
    (λ e. not_below_itself id_triple_cmp_total x (subst (λ z. id_triple_cmp x z ≡ Less) e h))
    (λ later. not_below_itself id_triple_cmp_total x
    (id_triple_cmp_total.trans x first x h (All-contains (λ z. id_triple_cmp first z ≡ Less) rest x (All-after_first id_triple_cmp first rest s) later)))
    (cons_cases first rest x c))

-- an answer that passes as below is `Less`
less_of : (r : Ordering) → is_lt r ≡ true → r ≡ Less
less_of Less h = refl
less_of Equal h = cc
less_of Greater h = cc

-- up to the first removed triple all stay where they are
pub closing_start : (old removed rest : List IdTriple) (first : IdTriple) (start : ℕ) → AreOrdered old → AreOrdered removed
    → ((t : IdTriple) → Contains removed t → Contains old t) → removed ≡ first ∷ rest → start ≤ length old
    → IsPartitionPoint (λ y. is_lt (id_triple_cmp y first) ≡ true) (λ y. is_lt (id_triple_cmp y first) ≡ false) old start
    → IsClosing old old removed removed start start
closing_start old removed rest first start s r there is within point =
    let front_absent : All (λ x. goes removed x ≡ false) (take start old) = All-before (λ x. goes removed x ≡ false) old start within
    (λ k d a b. subst (λ l. goes l (get_or old k d) ≡ false) (sym is)
    (below_absent first rest (get_or old k d) (subst AreOrdered is r) (less_of (id_triple_cmp (get_or old k d) first) (point.0 k d a b)))) in
    let split : filter (goes removed) old ≡ filter (goes removed) (take start old) ++ filter (goes removed) (drop start old) =
    ap (filter (goes removed)) (sym (take-append-drop start old)) ∙ filter-append (goes removed) (take start old) (drop start old) in
    record {
      keeps = record {
        front = sym (all_kept (stays removed) (take start old) (λ k d below. ap not (front_absent k d below)));
        rest = refl;
        behind = omega arith;
        within = within;
        long = refl;
      };
      coming = removed_is old removed s r there ∙ split ∙ ap (λ l. l ++ filter (goes removed) (drop start old)) (none_kept (goes removed) (take start old) front_absent);
    }

-- what stands at a place and what comes behind it
here_is : (now : List IdTriple) (at : ℕ) (x : IdTriple) → at < length now → x ≡ get_or now at x → drop at now ≡ x ∷ drop (at + 1) now
here_is now at x within read = drop_more now at x within ∙ ap (λ y. y ∷ drop (at + 1) now) (sym read)

-- a triple that passes a test is kept before the rest
kept_first : {X : Type 0} (test : X → Bool) (x : X) (xs : List X) → test x ≡ true → filter test (x ∷ xs) ≡ x ∷ filter test xs
kept_first test x xs h = rw h refl

-- one that fails it is not
not_kept_first : {X : Type 0} (test : X → Bool) (x : X) (xs : List X) → test x ≡ false → filter test (x ∷ xs) ≡ filter test xs
not_kept_first test x xs h = rw h refl

-- equal lists have equal rests
rests_same : {X : Type 0} (x y : X) (xs ys : List X) → x ∷ xs ≡ y ∷ ys → xs ≡ ys
rests_same x y xs ys h = cc

-- the next removed triple is taken out
pub closing_gone : (old now removed left rest : List IdTriple) (kept at : ℕ) (x : IdTriple) → IsClosing old now removed left kept at
    → at < length now → x ≡ get_or now at x → left ≡ x ∷ rest → IsClosing old now removed rest kept (at + 1)
closing_gone old now removed left rest kept at x c within read is =
    let head_goes : goes removed x ≡ true = All-head (λ y. goes removed y ≡ true) x rest
    (subst (All (λ y. goes removed y ≡ true)) (sym c.coming ∙ is) (filter_passes (goes removed) (drop at old))) in
    let keeps = FiltersInPlace-more_no c.keeps within (ap not head_goes) read in
    let here : drop at old ≡ x ∷ drop (at + 1) old = sym c.keeps.rest ∙ here_is now at x within read ∙ ap (λ l. x ∷ l) keeps.rest in
    record {
      keeps = keeps;
      coming = rests_same x x rest (filter (goes removed) (drop (at + 1) old))
          (sym is ∙ c.coming ∙ ap (filter (goes removed)) here ∙ kept_first (goes removed) x (drop (at + 1) old) head_goes);
    }

-- where two lists agree from a place on, they have one item there
read_old : (old now : List IdTriple) (at : ℕ) (x : IdTriple) → at < length now → drop at now ≡ drop at old → x ≡ get_or now at x → x ≡ get_or old at x
read_old old now at x within same read =
    read ∙ ap (λ n. get_or now n x) (sym (add-zero at)) ∙ sym (get_or-drop at now 0 x) ∙ ap (λ l. get_or l 0 x) same ∙ get_or-drop at old 0 x
    ∙ ap (λ n. get_or old n x) (add-zero at)

-- another triple moves up
pub closing_stays : (old now removed left : List IdTriple) (kept at : ℕ) (x : IdTriple) → IsClosing old now removed left kept at
    → at < length now → x ≡ get_or now at x → ((rest : List IdTriple) → left ≡ x ∷ rest → ⊥)
    → IsClosing old (set now kept x) removed left (kept + 1) (at + 1)
closing_stays old now removed left kept at x c within read other =
    let seen : drop at old ≡ x ∷ drop (at + 1) now = sym c.keeps.rest ∙ here_is now at x within read in
    let not_gone : goes removed x ≡ false = false_from_ne_true (goes removed x) (λ t.
    other (filter (goes removed) (drop (at + 1) now)) (c.coming ∙ ap (filter (goes removed)) seen ∙ kept_first (goes removed) x (drop (at + 1) now) t)) in
    let keeps = FiltersInPlace-more_set c.keeps within (ap not not_gone) read in
    let behind : drop (at + 1) old ≡ drop (at + 1) now = rests_same x x _ _ (sym (here_is old at x (omega (arith, c.keeps.long)) (read_old old now at x within c.keeps.rest read)) ∙ seen) in
    record {
      keeps = keeps;
      coming = c.coming ∙ ap (filter (goes removed)) (seen ∙ ap (λ l. x ∷ l) (sym behind)) ∙ not_kept_first (goes removed) x (drop (at + 1) old) not_gone;
    }

-- at the end what stays is all but what is removed
pub closing_all : (old now removed left : List IdTriple) (kept at : ℕ) → IsClosing old now removed left kept at → length old ≤ at
    → take kept now ≡ without id_triple_eq old removed
closing_all old now removed left kept at c past = FiltersInPlace-all c.keeps past

-- where nothing is removed, all stays
pub closing_none : (old removed : List IdTriple) → length removed ≡ 0 → old ≡ without id_triple_eq old removed
closing_none old removed e =
    let none : removed ≡ [] = nil_from_length removed e in
    sym (ap (without id_triple_eq old) none ∙ all_kept (stays []) old (λ k d below. refl))
