-- The part of triples in order that a pattern can fit.
use Rattle.std.proofs.Common.{◌≡◌, ℕ, ◌+◌, ◌<◌, ◌≤◌, ◌⊎◌, Bool, true, false, ◌&&◌, List, [], ◌∷◌, ◌++◌, length, get_or, take, drop, filter, Option, Some, None, refl, sym, ap, subst, ◌∙◌, inl, inr, arith}
use Rattle.std.proofs.lemmas.Bool.{cases_lt, true≢false}
use Rattle.std.proofs.lemmas.Cmp.{tied_itself, alike_right}
use Rattle.std.proofs.lemmas.List.{take-append-drop, get_or-take, get_or-drop, length-take, length-drop, append-nil}
use Rattle.std.proofs.lemmas.List.Elements.{filter-append, All-head, All-tail}
use Rattle.std.proofs.lemmas.Map.Keys.{Less-from_sorted}
use Rattle.std.specs.Cmp.{first_so, second_so}
use Rattle.std.specs.List.{All, AllWithin}
use Rattle.std.specs.List.Sorted.{IsNonDecreasingBy, IsPartitionPoint}
use Rattle.std.specs.Ordering.{ordering_index, ordering_then, is_lt, is_le}
use Rattle.std.specs.declared.cmp.Ordering.{Ordering}
use Rattle.std.specs.declared.cmp.Ordering.TheVariants.{Less, Equal, Greater}
use mathlib.Core.Logic.{⊎_elim}
use Rattle.m3_terms.specs.declared.table.TermId.{TermId}
use Rattle.triple_index.specs.Changes.{AreOrdered}
use Rattle.triple_index.specs.Fits.{admits, fits}
use Rattle.triple_index.specs.IdOrder.{id_cmp, id_triple_cmp}
use Rattle.triple_index.specs.IdOrderLaws.{id_cmp_total, id_exact}
use Rattle.triple_index.specs.Sides.{place_side, side}
use Rattle.triple_index.specs.declared.triple.IdTriple.{IdTriple}
use Rattle.triple_index.specs.declared.triple.IdPattern.{IdPattern}

-- an answer of an order is one of three
at_most_two : (r : Ordering) → ordering_index r ≤ 2
at_most_two Less = omega arith
at_most_two Equal = omega arith
at_most_two Greater = omega arith

-- of two numbers the lower stands no higher to a number, by where the higher stands
lower_at : (a b w : TermId) (m n r : Ordering) → id_cmp a b ≡ Less → id_cmp b w ≡ r
    → ordering_index (ordering_then (id_cmp a w) m) ≤ ordering_index (ordering_then r n)
lower_at a b w m n Less h e = let f : id_cmp a w ≡ Less = id_cmp_total.trans a b w h e in rw f (omega arith)
lower_at a b w m n Equal h e = let f : id_cmp a w ≡ Less = sym (alike_right id_cmp_total b w a e) ∙ h in rw f (omega arith)
lower_at a b w m n Greater h e = at_most_two (ordering_then (id_cmp a w) m)

-- of two numbers the lower stands no higher to a place
lower_side : (place : Option TermId) (a b : TermId) (m n : Ordering) → id_cmp a b ≡ Less
    → ordering_index (place_side place a m) ≤ ordering_index (place_side place b n)
lower_side None a b m n h = omega arith
lower_side (Some w) a b m n h = lower_at a b w m n (id_cmp b w) h refl

-- what follows an equal number decides, by where the number stands
next_at : (r m n : Ordering) → ordering_index m ≤ ordering_index n → ordering_index (ordering_then r m) ≤ ordering_index (ordering_then r n)
next_at Less m n h = omega arith
next_at Equal m n h = h
next_at Greater m n h = omega arith

-- of one number, what follows decides
next_side : (place : Option TermId) (a b : TermId) (m n : Ordering) → id_cmp a b ≡ Equal → ordering_index m ≤ ordering_index n
    → ordering_index (place_side place a m) ≤ ordering_index (place_side place b n)
next_side None a b m n e h = omega arith
next_side (Some w) a b m n e h =
    let same : id_cmp a w ≡ id_cmp b w = id_cmp_total.congr a b w e in
    rw same (next_at (id_cmp b w) m n h)

-- one answer and then another is `Less` where the first is, or is `Equal` and the other is `Less`
then_less : (r q : Ordering) → ordering_then r q ≡ Less → (r ≡ Less) ⊎ ((r ≡ Equal) × (q ≡ Less))
then_less Less q h = inl refl
then_less Equal q h = inr (refl, h)
then_less Greater q h = inl h

-- of two triples the lower stands no higher to a pattern
side_rises : (mask : IdPattern) (s t : IdTriple) → id_triple_cmp s t ≡ Less → ordering_index (side mask s) ≤ ordering_index (side mask t)
side_rises mask s t h = ⊎_elim
    (λ subject. lower_side mask.subject s.subject t.subject _ _ subject)
    (λ same. next_side mask.subject s.subject t.subject _ _ same.0 (⊎_elim
    (λ predicate. lower_side mask.predicate s.predicate t.predicate _ _ predicate)
    (λ equal. next_side mask.predicate s.predicate t.predicate _ _ equal.0 (lower_side mask.object s.object t.object _ _ equal.1))
    (then_less (id_cmp s.predicate t.predicate) (id_cmp s.object t.object) same.1)))
    (then_less (id_cmp s.subject t.subject) (ordering_then (id_cmp s.predicate t.predicate) (id_cmp s.object t.object)) h)

-- triples in order stand to a pattern in rising order
pub sides_rise : (mask : IdPattern) (xs : List IdTriple) → AreOrdered xs → IsNonDecreasingBy (λ t. ordering_index (side mask t)) xs
sides_rise mask xs s i j d a b = ⊎_elim
    (λ (below : i < j). side_rises mask (get_or xs i d) (get_or xs j d) (Less-from_sorted id_triple_cmp xs i j d s below b))
    (λ (over : j ≤ i). let e : i ≡ j = omega arith in subst (λ k. ordering_index (side mask (get_or xs i d)) ≤ ordering_index (side mask (get_or xs k d))) e (omega arith))
    (cases_lt i j)

-- an admitted number stands at its place, where what follows does
admitted_side : (place : Option TermId) (id : TermId) (next : Ordering) → admits place id ≡ true → next ≡ Equal → place_side place id next ≡ Equal
admitted_side None id next h e = refl
admitted_side (Some w) id next h e =
    let same : id_cmp id w ≡ Equal = subst (λ x. id_cmp x w ≡ Equal) ((id_exact w id).0 h) (tied_itself id_cmp_total w) in
    rw same e

-- a triple that fits a pattern stands at it
fits_side : (mask : IdPattern) (t : IdTriple) → fits mask t ≡ true → side mask t ≡ Equal
fits_side mask t h =
    let both : Bool = admits mask.subject t.subject && admits mask.predicate t.predicate in
    let first : both ≡ true = first_so both (admits mask.object t.object) h in
    admitted_side mask.subject t.subject _ (first_so (admits mask.subject t.subject) (admits mask.predicate t.predicate) first)
    (admitted_side mask.predicate t.predicate _ (second_so (admits mask.subject t.subject) (admits mask.predicate t.predicate) first)
    (admitted_side mask.object t.object Equal (second_so both (admits mask.object t.object) h) refl))

-- what fails a test that all that fit pass does not fit
unfit_by : (test : Ordering → Bool) → test Equal ≡ true → (mask : IdPattern) (t : IdTriple) (b : Bool) → fits mask t ≡ b → test (side mask t) ≡ false → b ≡ false
unfit_by test at mask t true h e = absurd (true≢false (sym at ∙ ap test (sym (fits_side mask t h)) ∙ e))
unfit_by test at mask t false h e = refl

-- what passes a test that none that fit pass does not fit
unfit_as : (test : Ordering → Bool) → test Equal ≡ false → (mask : IdPattern) (t : IdTriple) (b : Bool) → fits mask t ≡ b → test (side mask t) ≡ true → b ≡ false
unfit_as test at mask t true h e = absurd (true≢false (sym e ∙ ap test (fits_side mask t h) ∙ at))
unfit_as test at mask t false h e = refl

-- a test that fails everywhere keeps nothing
pub none_kept : {X : Type 0} (test : X → Bool) (xs : List X) → All (λ x. test x ≡ false) xs → filter test xs ≡ []
none_kept test [] h = refl
none_kept test (x ∷ xs) h = rw (All-head (λ x. test x ≡ false) x xs h) (none_kept test xs (All-tail (λ x. test x ≡ false) x xs h))

-- what holds up to a place holds of the list up to there
pub All-before : {X : Type 0} (P : X → Type 0) (xs : List X) (n : ℕ) → n ≤ length xs → AllWithin P xs 0 n → All P (take n xs)
All-before P xs n small h k d below =
    let short : k < n = omega (arith, length-take n xs) in
    subst P (sym (get_or-take n xs k d short)) (h k d (omega arith) short)

-- what holds from a place on holds of the list from there on
pub All-behind : {X : Type 0} (P : X → Type 0) (xs : List X) (n : ℕ) → AllWithin P xs n (length xs) → All P (drop n xs)
All-behind P xs n h k d below =
    subst P (sym (get_or-drop n xs k d)) (h (n + k) d (omega arith) (omega (arith, length-drop n xs)))

-- the triples that fit a pattern stand between those that stand below it and those that stand above it
pub range_fits : (mask : IdPattern) (xs : List IdTriple) (m n : ℕ) → m ≤ length xs → n ≤ length (drop m xs)
    → IsPartitionPoint (λ t. is_lt (side mask t) ≡ true) (λ t. is_lt (side mask t) ≡ false) xs m
    → IsPartitionPoint (λ t. is_le (side mask t) ≡ true) (λ t. is_le (side mask t) ≡ false) (drop m xs) n
    → filter (fits mask) (take n (drop m xs)) ≡ filter (fits mask) xs
range_fits mask xs m n small short low high =
    let before : filter (fits mask) (take m xs) ≡ [] = none_kept (fits mask) (take m xs)
    (All-before (λ t. fits mask t ≡ false) xs m small (λ k d a b. unfit_as is_lt refl mask (get_or xs k d) _ refl (low.0 k d a b))) in
    let after : filter (fits mask) (drop n (drop m xs)) ≡ [] = none_kept (fits mask) (drop n (drop m xs))
    (All-behind (λ t. fits mask t ≡ false) (drop m xs) n (λ k d a b. unfit_by is_le refl mask (get_or (drop m xs) k d) _ refl (high.1 k d a b))) in
    let rest : filter (fits mask) (drop m xs) ≡ filter (fits mask) (take n (drop m xs)) ++ filter (fits mask) (drop n (drop m xs)) =
    ap (filter (fits mask)) (sym (take-append-drop n (drop m xs))) ∙ filter-append (fits mask) (take n (drop m xs)) (drop n (drop m xs)) in
    let all : filter (fits mask) xs ≡ filter (fits mask) (take m xs) ++ filter (fits mask) (drop m xs) =
    ap (filter (fits mask)) (sym (take-append-drop m xs)) ∙ filter-append (fits mask) (take m xs) (drop m xs) in
    sym (all ∙ ap (λ l. l ++ filter (fits mask) (drop m xs)) before ∙ rest
    ∙ ap (λ l. filter (fits mask) (take n (drop m xs)) ++ l) after ∙ append-nil (filter (fits mask) (take n (drop m xs))))
