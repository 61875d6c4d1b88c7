-- Terms that are put behind others, each once, and what they cost.
use Rattle.std.proofs.Common.{◌≡◌, ◌∙◌, ℕ, ◌*◌, ◌<◌, ◌≤◌, Bool, true, false, not, cond, ◌||◌, List, [], ◌∷◌, ◌++◌, length, get_or, filter, fold, Contains, refl, sym, ap, subst, if◌then◌else◌, append_assoc, length-append, arith, true≢false, ◌^◌}
use Rattle.std.proofs.Math.ListN.{get_or-append}
use Rattle.std.proofs.Math.Seq.{get_or-append_seam}
use Rattle.std.proofs.lemmas.List.{append-nil}
use Rattle.std.proofs.lemmas.List.Elements.{Contains-append_left}
use Rattle.std.proofs.lemmas.List.Folds.{list_any-append}
use Rattle.std.proofs.lemmas.List.Sums.{sum_by-cons}
use Rattle.std.proofs.lemmas.Map.Keys.{IsDistinct-push, apart_from_distinct}
use Rattle.std.proofs.lemmas.Map.Views.{Contains-from_any}
use Rattle.std.specs.List.{IsDistinct}
use Rattle.indexmap.proofs.CallerLemmas.{Contains-insert_key}
use Rattle.m3_terms.specs.InsertedLaws.{cons_cases}
use Rattle.m3_terms.specs.Order.{term_eq}
use Rattle.m3_terms.specs.OrderLaws.{term_exact, term_eq_equiv}
use Rattle.m3_terms.specs.declared.term.Term.{Term}
use Rattle.m3_intern.specs.Interned.{bytes_of_term, bytes_of_terms, is_among, with_term, fresh}
use mathlib.Core.Logic.{⊎_elim}

-- two terms that the test finds equal are one
same : (x y : Term) → term_eq x y ≡ true → x ≡ y
same x y h = (term_exact x y).0 h

-- one term more, by whether it is there: each stands once still
distinct_at : (ks : List Term) (x : Term) (there : Bool) → is_among ks x ≡ there → IsDistinct term_eq ks
    → IsDistinct term_eq (if there then ks else ks ++ x ∷ [])
distinct_at ks x true h d = d
distinct_at ks x false h d = IsDistinct-push term_eq_equiv ks x d h

-- terms of which each stands once stay so when terms are put behind them
pub distinct_with : (ks xs : List Term) → IsDistinct term_eq ks → IsDistinct term_eq (fold with_term ks xs)
distinct_with ks [] d = d
distinct_with ks (x ∷ xs) d = distinct_with (with_term ks x) xs (distinct_at ks x (is_among ks x) refl d)

-- one term more, by whether it is there: what was there still is
stays_at : (ks : List Term) (x q : Term) (there : Bool) → Contains ks q → Contains (if there then ks else ks ++ x ∷ []) q
stays_at ks x q true c = c
stays_at ks x q false c = Contains-append_left ks (x ∷ []) q c

-- what was there still is
stays : (ks xs : List Term) (q : Term) → Contains ks q → Contains (fold with_term ks xs) q
stays ks [] q c = c
stays ks (x ∷ xs) q c = stays (with_term ks x) xs q (stays_at ks x q (is_among ks x) c)

-- each term that is put behind others is there
pub each_put : (ks xs : List Term) (q : Term) → Contains xs q → Contains (fold with_term ks xs) q
each_put ks [] q c = let below : c.0 < 0 = c.1 in absurd (omega arith)
each_put ks (x ∷ xs) q c = ⊎_elim
    (λ head. stays (with_term ks x) xs q (subst (Contains (with_term ks x)) head (Contains-insert_key term_eq same ks x)))
    (λ rest. each_put (with_term ks x) xs q rest)
    (cons_cases x xs q c)

-- the terms that are not kept
abbrev pub absent : List Term → List Term → List Term
absent kept wanted = filter (λ term. not (is_among kept term)) wanted

-- one term more behind kept terms and others, by whether it is there
behind_at : (kept ks : List Term) (x : Term) (xs : List Term) (k l : Bool) → is_among kept x ≡ k → is_among ks x ≡ l
    → fold with_term (kept ++ ks) xs ≡ kept ++ fold with_term ks (absent kept xs)
    → fold with_term (kept ++ (ks ++ x ∷ [])) xs ≡ kept ++ fold with_term (ks ++ x ∷ []) (absent kept xs)
    → fold with_term (if k || l then kept ++ ks else (kept ++ ks) ++ x ∷ []) xs ≡ kept ++ fold with_term ks (cond (not k) (x ∷ absent kept xs) (absent kept xs))
behind_at kept ks x xs true l h i e f = e
behind_at kept ks x xs false true h i e f =
    e ∙ ap (λ there. kept ++ fold with_term (if there then ks else ks ++ x ∷ []) (absent kept xs)) (sym i)
behind_at kept ks x xs false false h i e f = ap (λ l. fold with_term l xs) (append_assoc kept ks (x ∷ [])) ∙ f
    ∙ ap (λ there. kept ++ fold with_term (if there then ks else ks ++ x ∷ []) (absent kept xs)) (sym i)

-- to put wanted terms behind kept ones and others is to put those behind the others that are not kept
behind : (kept ks xs : List Term) → fold with_term (kept ++ ks) xs ≡ kept ++ fold with_term ks (absent kept xs)
behind kept ks [] = refl
behind kept ks (x ∷ xs) = rw (list_any-append (term_eq x) kept ks)
    (behind_at kept ks x xs (is_among kept x) (is_among ks x) refl refl (behind kept ks xs) (behind kept (ks ++ x ∷ []) xs))

-- the kept terms and the new ones are what becomes of the kept terms when the wanted ones are put behind them
pub fresh_behind : (kept wanted : List Term) → kept ++ fresh kept wanted ≡ fold with_term kept wanted
fresh_behind kept wanted = sym (behind kept [] wanted) ∙ ap (λ ks. fold with_term ks wanted) (append-nil kept)

-- a term before which others stand is none of them, where each stands once
absent_before : (ks : List Term) (x : Term) (xs : List Term) (there : Bool) → is_among ks x ≡ there → IsDistinct term_eq (ks ++ x ∷ xs) → is_among ks x ≡ false
absent_before ks x xs true h d =
    let c = Contains-from_any same x ks h in
    let left : get_or (ks ++ x ∷ xs) c.0 x ≡ x = get_or-append ks (x ∷ xs) x c.0 c.1 ∙ c.2 in
    let right : get_or (ks ++ x ∷ xs) (length ks) x ≡ x = get_or-append_seam ks x xs x in
    let longer : length ks < length (ks ++ x ∷ xs) = simp length-append (omega arith) in
    let apart : term_eq (get_or (ks ++ x ∷ xs) c.0 x) (get_or (ks ++ x ∷ xs) (length ks) x) ≡ false =
    apart_from_distinct term_eq (ks ++ x ∷ xs) c.0 (length ks) x d c.1 longer in
    let itself : term_eq x x ≡ false = ap (λ y. term_eq y x) (sym left) ∙ ap (term_eq (get_or (ks ++ x ∷ xs) c.0 x)) (sym right) ∙ apart in
    absurd (true≢false (sym (term_eq_equiv.refl x) ∙ itself))
absent_before ks x xs false h d = h

-- terms of which each stands once are put behind others one after another
pub put_behind : (ks xs : List Term) → IsDistinct term_eq (ks ++ xs) → fold with_term ks xs ≡ ks ++ xs
put_behind ks [] d = sym (append-nil ks)
put_behind ks (x ∷ xs) d =
    let new : is_among ks x ≡ false = absent_before ks x xs (is_among ks x) refl d in
    rw new (put_behind (ks ++ x ∷ []) xs (rw append_assoc d) ∙ append_assoc ks (x ∷ []) xs)

-- each term costs at least 32
pub least_cost : (xs : List Term) → 32 * length xs ≤ bytes_of_terms xs
least_cost [] = omega arith
least_cost (x ∷ xs) = omega (arith, sum_by-cons bytes_of_term x xs, least_cost xs)

-- terms that cost at most 2^36 are at most 2^31
pub few_terms : (xs : List Term) (limit : ℕ) → bytes_of_terms xs ≤ limit → limit ≤ 2 ^ 36 → length xs ≤ 2 ^ 31
few_terms xs limit h l = omega (arith, least_cost xs)
