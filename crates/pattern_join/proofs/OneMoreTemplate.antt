-- The answer to templates and one more: what is there, and what fits the new template and none before it.
use Rattle.std.proofs.Common.{◌≡◌, ℕ, ◌+◌, ◌<◌, ◌≤◌, Bool, true, false, ◌||◌, not, cond, List, [], ◌∷◌, ◌++◌, length, get_or, take, drop, filter, refl, sym, ap, subst, ◌∙◌, arith}
use Rattle.std.proofs.lemmas.Bool.{or_left}
use Rattle.std.proofs.lemmas.List.{take_more, take_all, take-append-drop}
use Rattle.std.proofs.lemmas.List.Folds.{list_any-append}
use Rattle.std.proofs.lemmas.List.Kept.{IsStrictlySortedBy-filter}
use Rattle.std.proofs.lemmas.List.Sorted.{IsPermutation-refl, IsPermutation-sym, IsPermutation-trans, IsPermutation-cons, IsPermutation-middle, IsPermutation-append, length_permutation}
use Rattle.std.specs.List.Sorted.{IsPermutation}
use Rattle.triple_index.specs.Changes.{AreOrdered}
use Rattle.triple_index.specs.Fits.{fits}
use Rattle.triple_index.specs.Graphs.{fits_one, without}
use Rattle.triple_index.specs.IdOrder.{id_triple_cmp}
use Rattle.triple_index.specs.declared.triple.IdTriple.{IdTriple}
use Rattle.triple_index.specs.declared.triple.IdPattern.{IdPattern}
use Rattle.triple_index.proofs.Nets.{nil_ordered, fits_more}
use Rattle.pattern_join.specs.Answers.{answer, width, IsOverwide}
use Rattle.pattern_join.specs.Reading.{IsRead}
use Rattle.pattern_join.specs.declared.fault.EvalFault.{EvalFault}
use Rattle.pattern_join.specs.declared.fault.EvalFault.TheVariants.{TooWide, NoMemory}
use Rattle.pattern_join.proofs.FilteredPermutations.{IsPermutation-filter}

-- one more triple of the graph, which fits a template before the new one, or the new one, or none
triple_more : (fresh : IdTriple → Bool) (a b : Bool) (x : IdTriple) (all old new : List IdTriple) → fresh x ≡ not a
    → IsPermutation all (old ++ filter fresh new)
    → IsPermutation (cond (a || b) (x ∷ all) all) (cond a (x ∷ old) old ++ filter fresh (cond b (x ∷ new) new))
triple_more fresh true true x all old new e p = rw e (IsPermutation-cons x all (old ++ filter fresh new) p)
triple_more fresh true false x all old new e p = IsPermutation-cons x all (old ++ filter fresh new) p
triple_more fresh false true x all old new e p = rw e
    (IsPermutation-trans _ _ _ (IsPermutation-cons x all (old ++ filter fresh new) p) (IsPermutation-sym _ _ (IsPermutation-middle old x (filter fresh new))))
triple_more fresh false false x all old new e p = p

-- the answer with one more template
template_more : (templates : List IdPattern) (template : IdPattern) (graph : List IdTriple)
    → IsPermutation (answer (templates ++ template ∷ []) graph) (answer templates graph ++ without fits (filter (fits template) graph) templates)
template_more templates template [] = IsPermutation-refl []
template_more templates template (x ∷ graph) =
    let all : List IdTriple = answer (templates ++ template ∷ []) graph in
    let old : List IdTriple = answer templates graph in
    let new : List IdTriple = filter (fits template) graph in
    let fresh : IdTriple → Bool = λ t. not (fits_one fits templates t) in
    subst (λ b. IsPermutation (cond b (x ∷ all) all) (cond (fits_one fits templates x) (x ∷ old) old ++ filter fresh (cond (fits template x) (x ∷ new) new)))
    (sym (fits_more templates template x))
    (triple_more fresh (fits_one fits templates x) (fits template x) x all old new refl (template_more templates template graph))

-- the triples that were found, and the rows of one more template that are new, are the answer with it
found_more : (templates : List IdPattern) (template : IdPattern) (graph found rows : List IdTriple) → IsPermutation (answer templates graph) found
    → IsPermutation (filter (fits template) graph) rows → IsPermutation (answer (templates ++ template ∷ []) graph) (found ++ without fits rows templates)
found_more templates template graph found rows f r = IsPermutation-trans _ _ _ (template_more templates template graph)
    (IsPermutation-append (answer templates graph) found _ _ f (IsPermutation-filter (λ t. not (fits_one fits templates t)) (filter (fits template) graph) rows r))

kept_by : {X : Type 0} (a b : Bool) (x : X) (xs ys : List X) → (a ≡ true → b ≡ true) → length xs ≤ length ys
    → length (cond a (x ∷ xs) xs) ≤ length (cond b (x ∷ ys) ys)
kept_by true true x xs ys f h = omega arith
kept_by true false x xs ys f h = let e : false ≡ true = f refl in cc
kept_by false true x xs ys f h = omega arith
kept_by false false x xs ys f h = h

-- a test that passes where another does keeps no fewer items
keeps_more : {X : Type 0} (p q : X → Bool) → ((x : X) → p x ≡ true → q x ≡ true) → (xs : List X) → length (filter p xs) ≤ length (filter q xs)
keeps_more p q f [] = omega arith
keeps_more p q f (x ∷ xs) = kept_by (p x) (q x) x (filter p xs) (filter q xs) (f x) (keeps_more p q f xs)

-- the first templates have no wider answer than all
width_within : (at : ℕ) (templates : List IdPattern) (graph : List IdTriple) → width (take at templates) graph ≤ width templates graph
width_within at templates graph = keeps_more (fits_one fits (take at templates)) (fits_one fits templates)
    (λ x h. ap (λ ps. fits_one fits ps x) (sym (take-append-drop at templates)) ∙ list_any-append (λ p. fits p x) (take at templates) (drop at templates)
    ∙ or_left (fits_one fits (take at templates) x) (fits_one fits (drop at templates) x) h) graph

-- nothing answers no templates
none_answer : (graph : List IdTriple) → answer [] graph ≡ []
none_answer [] = refl
none_answer (x ∷ graph) = none_answer graph

-- nothing was read of no templates
pub read_none : (templates : List IdPattern) (graph found : List IdTriple) → found ≡ [] → IsRead (take 0 templates) graph found
read_none templates graph found e = record {
  same = subst (λ l. IsPermutation (answer [] graph) l) (none_answer graph ∙ sym e) (IsPermutation-refl (answer [] graph));
  ordered = subst AreOrdered (sym (none_answer graph)) nil_ordered;
  narrow = rw e (omega arith);
}

-- the rows of the next template were read, without those that fit an earlier one
pub read_next : (templates earlier : List IdPattern) (graph found rows more : List IdTriple) (at : ℕ) (d : IdPattern) → at < length templates
    → earlier ≡ take at templates → IsRead (take at templates) graph found → AreOrdered graph
    → IsPermutation (filter (fits (get_or templates at d)) graph) rows → more ≡ found ++ without fits rows earlier → length more ≤ 65536
    → IsRead (take (at + 1) templates) graph more
read_next templates earlier graph found rows more at d within front r s p e n = record {
  same = subst (λ ps. IsPermutation (answer ps graph) more) (sym (take_more templates at d within))
      (subst (IsPermutation (answer (take at templates ++ get_or templates at d ∷ []) graph)) (sym (e ∙ ap (λ ps. found ++ without fits rows ps) front))
      (found_more (take at templates) (get_or templates at d) graph found rows r.same p));
  ordered = IsStrictlySortedBy-filter id_triple_cmp (fits_one fits (take (at + 1) templates)) graph s;
  narrow = n;
}

-- what is over the limit in a part is over it in the whole
wider : (n m : ℕ) (fault : EvalFault) → n ≤ m → IsOverwide n fault → IsOverwide m fault
wider n m TooWide h over = omega arith
wider n m NoMemory h over = tt

-- where the rows of a template are too many, so is the answer
pub read_over : (templates earlier : List IdPattern) (graph found rows : List IdTriple) (at : ℕ) (d : IdPattern) (fault : EvalFault) → at < length templates
    → earlier ≡ take at templates → IsRead (take at templates) graph found → IsPermutation (filter (fits (get_or templates at d)) graph) rows
    → IsOverwide (length (found ++ without fits rows earlier)) fault → IsOverwide (width templates graph) fault
read_over templates earlier graph found rows at d fault within front r p over =
    let first : List IdPattern = take at templates in
    let template : IdPattern = get_or templates at d in
    let more : List IdTriple = found ++ without fits rows first in
    let long : length more ≡ width (first ++ template ∷ []) graph = length_permutation _ more (found_more first template graph found rows r.same p) in
    let part : width (first ++ template ∷ []) graph ≤ width templates graph =
    subst (λ ps. width ps graph ≤ width templates graph) (take_more templates at d within) (width_within (at + 1) templates graph) in
    wider (length more) (width templates graph) fault (omega arith)
    (subst (λ ps. IsOverwide (length (found ++ without fits rows ps)) fault) front over)

-- all templates were read
pub read_all : (templates : List IdPattern) (graph found : List IdTriple) (at : ℕ) → length templates ≤ at → IsRead (take at templates) graph found
    → IsRead templates graph found
read_all templates graph found at past r = subst (λ ps. IsRead ps graph found) (take_all at templates past) r
