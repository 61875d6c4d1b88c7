-- Terms by their numbers in one list and in two.
use Rattle.std.proofs.Common.{◌≡◌, ◌≢◌, ◌∙◌, ℕ, zero, suc, ◌+◌, ◌<◌, ◌≤◌, ◌⊎◌, false, ◌||◌, None, Some, List, [], ◌∷◌, ◌++◌, length, get_or, slice_get, position, Contains, refl, sym, ap, inl, inr, arith, true≢false}
use Rattle.std.proofs.lemmas.Bool.{cases_lt}
use Rattle.std.proofs.lemmas.Option.{slice_get_within, get_or_from_slice_get, slice_get-get_or}
use Rattle.std.proofs.lemmas.List.Folds.{list_any-append}
use Rattle.std.proofs.lemmas.List.Quantifiers.{position-Some}
use Rattle.std.proofs.lemmas.Map.Keys.{apart_from_distinct}
use Rattle.std.proofs.lemmas.Map.Views.{list_any-from_Contains}
use Rattle.std.specs.List.{IsDistinct, list_any}
use Rattle.m3_terms.specs.Order.{term_eq}
use Rattle.m3_terms.specs.OrderLaws.{term_exact, term_eq_equiv}
use Rattle.m3_terms.specs.TermTable.{NamesOnce}
use Rattle.m3_terms.specs.declared.term.Term.{Term}
use Rattle.m3_intern.specs.Laws.{LongerTablesExtend, NumbersStay, TermsAreFound}

-- a number of the first list has its term there
pub get_left : {X : Type 0} (xs ys : List X) (n : ℕ) → n < length xs → slice_get (xs ++ ys) n ≡ slice_get xs n
get_left [] ys n h = absurd (omega arith)
get_left (x ∷ xs) ys zero h = refl
get_left (x ∷ xs) ys (suc n) h = get_left xs ys n (omega arith)

-- a number past the first list has its term in the second
pub get_right : {X : Type 0} (xs ys : List X) (n m : ℕ) → n ≡ length xs + m → slice_get (xs ++ ys) n ≡ slice_get ys m
get_right [] ys n m h = let e : n ≡ m = omega arith in ap (slice_get ys) e
get_right (x ∷ xs) ys zero m h = absurd (omega arith)
get_right (x ∷ xs) ys (suc n) m h = get_right xs ys n m (omega arith)

-- an earlier number does not have the term of a later one, where each term stands once
apart : (xs : List Term) → IsDistinct term_eq xs → (m n : ℕ) (x : Term) → slice_get xs m ≡ Some x → slice_get xs n ≡ Some x → m < n → ⊥
apart xs d m n x p q h =
    let e : term_eq (get_or xs m x) (get_or xs n x) ≡ false = apart_from_distinct term_eq xs m n x d h (slice_get_within xs n x q) in
    let itself : term_eq x x ≡ false =
    ap (λ y. term_eq y x) (sym (get_or_from_slice_get xs m x x p)) ∙ ap (term_eq (get_or xs m x)) (sym (get_or_from_slice_get xs n x x q)) ∙ e in
    true≢false (sym (term_eq_equiv.refl x) ∙ itself)

-- no two numbers of a list have one term, where each term stands once
pub named_once : (xs : List Term) → IsDistinct term_eq xs → NamesOnce (slice_get xs)
named_once xs d m n x p q = by (cases_lt m n) (cases_lt n m)
  where
    by : (m < n) ⊎ (n ≤ m) → (n < m) ⊎ (m ≤ n) → m ≡ n
    by (inl less) r = absurd (apart xs d m n x p q less)
    by (inr le) (inl more) = absurd (apart xs d n m x q p more)
    by (inr le) (inr ge) = omega arith

-- a term of a list has a number
pub get_contained : (xs : List Term) (x : Term) → Contains xs x → (n : ℕ) × (slice_get xs n ≡ Some x)
get_contained xs x c = (c.0, slice_get-get_or xs c.0 x c.1 ∙ ap Some c.2)

-- what has a number is in the list
pub contained_at : (xs : List Term) (x : Term) (n : ℕ) → slice_get xs n ≡ Some x → Contains xs x
contained_at xs x n e = (n, slice_get_within xs n x e, get_or_from_slice_get xs n x x e)

-- a term that the test does not find has no number
pub none_there : (xs : List Term) (x : Term) → list_any (term_eq x) xs ≡ false → (n : ℕ) → slice_get xs n ≢ Some x
none_there xs x h n e = true≢false (sym (list_any-from_Contains term_eq_equiv x xs (contained_at xs x n e)) ∙ h)

-- a term that the test finds in neither of two lists has no number in both
pub none_of_both : (xs ys : List Term) (x : Term) → list_any (term_eq x) xs ≡ false → list_any (term_eq x) ys ≡ false
    → (n : ℕ) → slice_get (xs ++ ys) n ≢ Some x
none_of_both xs ys x h k = none_there (xs ++ ys) x (list_any-append (term_eq x) xs ys ∙ ap (λ b. b || list_any (term_eq x) ys) h ∙ k)

-- the index at which a term is found has the term
pub found_there : (xs : List Term) (x : Term) (i : ℕ) → position (term_eq x) xs ≡ Some i → slice_get xs i ≡ Some x
found_there xs x i e =
    let p = position-Some (term_eq x) xs i x e in
    slice_get-get_or xs i x p.0 ∙ ap Some (sym ((term_exact x (get_or xs i x)).0 p.1))

-- what a longer table says
pub longer_extends : LongerTablesExtend
longer_extends kept fresh n term e = get_left kept fresh n (slice_get_within kept n term e) ∙ e

-- numbers stay
pub stay : NumbersStay
stay old new extends once term id None is answers = absurd (answers id.0 (extends id.0 term is))
stay old new extends once term id (Some new_id) is answers = ap (λ n. Some (record { 0 = n })) (once new_id.0 id.0 term answers (extends id.0 term is))

-- a number is given exactly for what is there
pub found : TermsAreFound
found terms term None is = (λ c. absurd (is (get_contained terms term c).0 (get_contained terms term c).1), λ h. absurd (true≢false (sym h)))
found terms term (Some id) is = (λ c. refl, λ h. contained_at terms term id.0 is)
