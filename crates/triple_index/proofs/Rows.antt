-- The rows of a view: what fits of the triples that stay, and then what fits of those that are inserted.
use Rattle.std.proofs.Common.{◌≡◌, ℕ, ◌+◌, ◌<◌, Bool, true, false, ◌&&◌, not, cond, List, [], ◌∷◌, ◌++◌, length, get_or, drop, filter, Contains, refl, sym, ap, subst, ◌∙◌, inl, inr}
use Rattle.std.proofs.lemmas.List.{drop_more, append-nil}
use Rattle.std.proofs.lemmas.List.Elements.{All-contains, All-head, All-tail}
use Rattle.std.proofs.lemmas.List.Kept.{IsStrictlySortedBy-filter}
use Rattle.std.proofs.lemmas.List.Sorted.{IsPermutation-refl, IsPermutation-sym, IsPermutation-trans, IsPermutation-cons, IsPermutation-middle, IsPermutation-append_left, IsPermutation-filter_both}
use Rattle.std.proofs.lemmas.Map.Keys.{sorted_tail}
use Rattle.std.proofs.lemmas.Map.Lookups.{CmpEqualImpliesEq}
use Rattle.std.proofs.lemmas.Map.Views.{All-after_first}
use Rattle.std.specs.Cmp.{IsTotalOrder}
use Rattle.std.specs.List.{All}
use Rattle.std.specs.List.Sorted.{IsPermutation, IsStrictlySortedBy}
use Rattle.std.specs.Ordering.{is_lt, is_gt}
use Rattle.std.specs.declared.cmp.Ordering.{Ordering}
use Rattle.std.specs.declared.cmp.Ordering.TheVariants.{Less, Equal, Greater}
use mathlib.Core.Logic.{⊎_elim}
use Rattle.m3_terms.specs.Inserted.{inserted}
use Rattle.m3_terms.specs.InsertedLaws.{inserted_has, head_in, tail_in, was_there, is_kept}
use Rattle.triple_index.specs.Changes.{AreOrdered, Net, IsNet, changed}
use Rattle.triple_index.specs.Fits.{fits}
use Rattle.triple_index.specs.Graphs.{fits_one, without, with_all}
use Rattle.triple_index.specs.GraphLaws.{sorted_same, after_ordered, with_all_ordered, with_all_has, not_below_itself}
use Rattle.triple_index.specs.IdOrder.{id_triple_cmp, id_triple_eq}
use Rattle.triple_index.specs.IdOrderLaws.{id_triple_cmp_total, id_triple_one}
use Rattle.triple_index.specs.Rows.{rows_of}
use Rattle.triple_index.specs.declared.triple.IdTriple.{IdTriple}
use Rattle.triple_index.specs.declared.triple.IdPattern.{IdPattern}
use Rattle.triple_index.proofs.Closing.{all_kept}
use Rattle.triple_index.proofs.Merging.{All-from_contains}
use Rattle.triple_index.proofs.Nets.{kept_passes}

-- ---- one row after another

-- a triple behind which others come is a row, or is not
first_by : (p : IdTriple → Bool) (x : IdTriple) (ys : List IdTriple) (b : Bool)
    → filter p (cond b (x ∷ ys) ys) ≡ cond (b && p x) (x ∷ filter p ys) (filter p ys)
first_by p x ys true = refl
first_by p x ys false = refl

-- the rows of triples with a head: the head where it fits and stays, and then the rows of the rest
row_first : (mask : IdPattern) (removed : List IdTriple) (x : IdTriple) (xs : List IdTriple)
    → rows_of mask (x ∷ xs) removed ≡ cond (fits mask x && not (fits_one id_triple_eq removed x)) (x ∷ rows_of mask xs removed) (rows_of mask xs removed)
row_first mask removed x xs = first_by (λ t. not (fits_one id_triple_eq removed t)) x (filter (fits mask) xs) (fits mask x)

-- the rows from a place on, where a triple there is a row
pub row_found : (mask : IdPattern) (triples removed : List IdTriple) (at : ℕ) (x : IdTriple) (b : Bool) → at < length triples → x ≡ get_or triples at x
    → b ≡ (fits mask x && not (fits_one id_triple_eq removed x)) → b ≡ true
    → rows_of mask (drop at triples) removed ≡ x ∷ rows_of mask (drop (at + 1) triples) removed
row_found mask triples removed at x b within read is h =
    ap (λ l. rows_of mask l removed) (drop_more triples at x within ∙ ap (λ y. y ∷ drop (at + 1) triples) (sym read))
    ∙ row_first mask removed x (drop (at + 1) triples)
    ∙ ap (λ t. cond t (x ∷ rows_of mask (drop (at + 1) triples) removed) (rows_of mask (drop (at + 1) triples) removed)) (sym is ∙ h)

-- and where it is none
pub row_passed : (mask : IdPattern) (triples removed : List IdTriple) (at : ℕ) (x : IdTriple) (b : Bool) → at < length triples → x ≡ get_or triples at x
    → b ≡ (fits mask x && not (fits_one id_triple_eq removed x)) → b ≡ false
    → rows_of mask (drop at triples) removed ≡ rows_of mask (drop (at + 1) triples) removed
row_passed mask triples removed at x b within read is h =
    ap (λ l. rows_of mask l removed) (drop_more triples at x within ∙ ap (λ y. y ∷ drop (at + 1) triples) (sym read))
    ∙ row_first mask removed x (drop (at + 1) triples)
    ∙ ap (λ t. cond t (x ∷ rows_of mask (drop (at + 1) triples) removed) (rows_of mask (drop (at + 1) triples) removed)) (sym is ∙ h)

-- where nothing is removed, the rows are all that fit
pub rows_all : (mask : IdPattern) (triples : List IdTriple) → rows_of mask triples [] ≡ filter (fits mask) triples
rows_all mask triples = all_kept (λ t. not (fits_one id_triple_eq [] t)) (filter (fits mask) triples) (λ k d below. refl)

-- once what stays is handed out, the next row is one of the inserted
pub next_inserted : (mask : IdPattern) (kept removed inserted rest all : List IdTriple) (row : IdTriple)
    → rows_of mask kept removed ++ filter (fits mask) inserted ≡ all → rows_of mask kept removed ≡ []
    → rows_of mask inserted [] ≡ row ∷ rows_of mask rest [] → all ≡ row ∷ filter (fits mask) rest
next_inserted mask kept removed inserted rest all row seen none found =
    sym seen ∙ ap (λ l. l ++ filter (fits mask) inserted) none ∙ sym (rows_all mask inserted) ∙ found ∙ ap (λ l. row ∷ l) (rows_all mask rest)

-- and once these are handed out too, no row is left
pub none_left : (mask : IdPattern) (kept removed inserted all : List IdTriple)
    → rows_of mask kept removed ++ filter (fits mask) inserted ≡ all → rows_of mask kept removed ≡ []
    → rows_of mask inserted [] ≡ [] → all ≡ []
none_left mask kept removed inserted all seen none found =
    sym seen ∙ ap (λ l. l ++ filter (fits mask) inserted) none ∙ sym (rows_all mask inserted) ∙ found

-- ---- all rows

-- two tests keep the same in either order
twice_by : {X : Type 0} (p q : X → Bool) (x : X) (xs : List X) (a b : Bool) → p x ≡ a → q x ≡ b → filter p (filter q xs) ≡ filter q (filter p xs)
    → filter p (cond b (x ∷ filter q xs) (filter q xs)) ≡ filter q (cond a (x ∷ filter p xs) (filter p xs))
twice_by p q x xs true true e f h = rw (e, f) (ap (λ l. x ∷ l) h)
twice_by p q x xs true false e f h = rw f h
twice_by p q x xs false true e f h = rw e h
twice_by p q x xs false false e f h = h

twice : {X : Type 0} (p q : X → Bool) (xs : List X) → filter p (filter q xs) ≡ filter q (filter p xs)
twice p q [] = refl
twice p q (x ∷ xs) = twice_by p q x xs (p x) (q x) refl refl (twice p q xs)

-- two tests that agree on each item of a list keep the same of it
agree : {X : Type 0} (p q : X → Bool) (xs : List X) → All (λ x. p x ≡ q x) xs → filter p xs ≡ filter q xs
agree p q [] h = refl
agree p q (x ∷ xs) h =
    let head : p x ≡ q x = All-head (λ x. p x ≡ q x) x xs h in
    let rest : filter p xs ≡ filter q xs = agree p q xs (All-tail (λ x. p x ≡ q x) x xs h) in
    ap (λ b. cond b (x ∷ filter p xs) (filter p xs)) head ∙ ap (λ l. cond (q x) (x ∷ l) l) rest

module _ {K : Type 0} {R : K → K → Ordering} (o : IsTotalOrder R) (exact : CmpEqualImpliesEq R) where
  -- what a test keeps of a graph with items is what it keeps of the graph, with what it keeps of the items
  pub with_all_kept : (test : K → Bool) (graph items : List K) → IsStrictlySortedBy R graph
      → filter test (with_all R graph items) ≡ with_all R (filter test graph) (filter test items)
  with_all_kept test graph items s = sorted_same o _ _
      (IsStrictlySortedBy-filter R test (with_all R graph items) (with_all_ordered o exact graph items s))
      (with_all_ordered o exact (filter test graph) (filter test items) (IsStrictlySortedBy-filter R test graph s))
      (λ q c.
      let passes = kept_passes test (with_all R graph items) q c in
      (with_all_has o exact (filter test graph) (filter test items) q).1 (⊎_elim
      (λ old. inl (is_kept test graph q passes old))
      (λ new. inr (is_kept test items q passes new))
      ((with_all_has o exact graph items q).0 (was_there test (with_all R graph items) q c))))
      (λ q c. ⊎_elim
      (λ old. is_kept test (with_all R graph items) q (kept_passes test graph q old)
      ((with_all_has o exact graph items q).1 (inl (was_there test graph q old))))
      (λ new. is_kept test (with_all R graph items) q (kept_passes test items q new)
      ((with_all_has o exact graph items q).1 (inr (was_there test items q new))))
      ((with_all_has o exact (filter test graph) (filter test items) q).0 c))

  -- an item that is not another is above it where it is not below it
  apart : (r : Ordering) → (r ≡ Equal → ⊥) → not (is_lt r) ≡ is_gt r
  apart Less h = refl
  apart Equal h = absurd (h refl)
  apart Greater h = refl

  -- an item put among others that it is none of is those and it
  inserted_moved : (x : K) (xs : List K) → (Contains xs x → ⊥) → IsPermutation (inserted R x xs) (x ∷ xs)
  inserted_moved x xs fresh =
      let low = filter (λ y. is_lt (R y x)) xs in
      let other : filter (λ y. not (is_lt (R y x))) xs ≡ filter (λ y. is_gt (R y x)) xs =
      agree (λ y. not (is_lt (R y x))) (λ y. is_gt (R y x)) xs
      (All-from_contains (λ y. not (is_lt (R y x)) ≡ is_gt (R y x)) xs (λ q c. apart (R q x) (λ e. fresh (subst (Contains xs) (exact q x e) c)))) in
      let both : IsPermutation xs (low ++ filter (λ y. is_gt (R y x)) xs) =
      subst (λ l. IsPermutation xs (low ++ l)) other (IsPermutation-filter_both (λ y. is_lt (R y x)) (λ y. not (is_lt (R y x))) (λ y. refl) xs) in
      IsPermutation-trans _ _ _ (IsPermutation-middle low x (filter (λ y. is_gt (R y x)) xs))
      (IsPermutation-cons x _ _ (IsPermutation-sym xs _ both))

  -- items in order, each once, put among others that they are none of, are those and they
  pub with_all_moved : (graph items : List K) → IsStrictlySortedBy R items → ((q : K) → Contains items q → Contains graph q → ⊥)
      → IsPermutation (with_all R graph items) (graph ++ items)
  with_all_moved graph [] s fresh = subst (IsPermutation graph) (sym (append-nil graph)) (IsPermutation-refl graph)
  with_all_moved graph (x ∷ xs) s fresh =
      let rest : IsPermutation (with_all R (inserted R x graph) xs) (inserted R x graph ++ xs) =
      with_all_moved (inserted R x graph) xs (sorted_tail R x xs s) (λ q later there. ⊎_elim
      (λ (same : q ≡ x). not_below_itself o x (subst (λ z. R x z ≡ Less) same (All-contains (λ z. R x z ≡ Less) xs q (All-after_first R x xs s) later)))
      (λ (old : Contains graph q). fresh q (tail_in x xs q later) old)
      ((inserted_has exact x graph q).0 there)) in
      let here : IsPermutation (inserted R x graph ++ xs) (x ∷ (graph ++ xs)) =
      IsPermutation-append_left xs (inserted R x graph) (x ∷ graph) (inserted_moved x graph (fresh x (head_in x xs))) in
      IsPermutation-trans _ _ _ rest (IsPermutation-trans _ _ _ here (IsPermutation-sym _ _ (IsPermutation-middle graph x xs)))

-- the triples that fit a mask in the graph after a change are the rows of what stays and what fits of what is inserted
pub rows_are : (mask : IdPattern) (graph removed inserted part inserted_part : List IdTriple) → AreOrdered graph → AreOrdered inserted
    → IsNet graph (record { removed = removed; inserted = inserted })
    → filter (fits mask) part ≡ filter (fits mask) graph → filter (fits mask) inserted_part ≡ filter (fits mask) inserted
    → IsPermutation (filter (fits mask) (changed graph (record { removed = removed; inserted = inserted })))
    (rows_of mask part removed ++ filter (fits mask) inserted_part)
rows_are mask graph removed inserted part inserted_part s t net same also =
    let stays : IdTriple → Bool = λ item. not (fits_one id_triple_eq removed item) in
    let left = without id_triple_eq graph removed in
    let all : filter (fits mask) (changed graph (record { removed = removed; inserted = inserted })) ≡ with_all id_triple_cmp (filter (fits mask) left) (filter (fits mask) inserted) =
    with_all_kept id_triple_cmp_total id_triple_one (fits mask) left inserted (IsStrictlySortedBy-filter id_triple_cmp stays graph s) in
    let moved : IsPermutation (with_all id_triple_cmp (filter (fits mask) left) (filter (fits mask) inserted)) (filter (fits mask) left ++ filter (fits mask) inserted) =
    with_all_moved id_triple_cmp_total id_triple_one (filter (fits mask) left) (filter (fits mask) inserted)
    (IsStrictlySortedBy-filter id_triple_cmp (fits mask) inserted t)
    (λ q new old. net.inserted_new q (was_there (fits mask) inserted q new) (was_there stays graph q (was_there (fits mask) left q old))) in
    let kept : filter (fits mask) left ≡ rows_of mask part removed = twice (fits mask) stays graph ∙ ap (filter stays) (sym same) in
    subst (λ l. IsPermutation l (rows_of mask part removed ++ filter (fits mask) inserted_part)) (sym all)
    (subst (IsPermutation (with_all id_triple_cmp (filter (fits mask) left) (filter (fits mask) inserted)))
    (ap (λ l. l ++ filter (fits mask) inserted) kept ∙ ap (λ l. rows_of mask part removed ++ l) (sym also)) moved)

-- the graph after a change that does nothing
pub unchanged : (graph : List IdTriple) → graph ≡ changed graph (record { removed = []; inserted = [] })
unchanged graph = sym (all_kept (λ t. not (fits_one id_triple_eq [] t)) graph (λ k d below. refl))

-- the graph after a change is in order
pub changed_ordered : (graph : List IdTriple) (change : Net) → AreOrdered graph → AreOrdered (changed graph change)
changed_ordered graph change s = after_ordered id_triple_cmp_total id_triple_one id_triple_eq graph change.removed change.inserted s
