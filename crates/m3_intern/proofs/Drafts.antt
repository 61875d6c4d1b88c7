-- What a draft makes of an interner.
use Rattle.std.proofs.Common.{◌≡◌, ◌∙◌, ℕ, ◌+◌, ◌≤◌, ◌-◌, ◌^◌, min, Contains, List, ◌++◌, fold, sym, ap, subst, arith}
use Rattle.std.proofs.lemmas.List.Sums.{sum_by-append}
use Rattle.std.specs.List.{IsDistinct}
use Rattle.m3_terms.specs.Order.{term_eq}
use Rattle.m3_terms.specs.declared.term.Term.{Term}
use Rattle.m3_intern.specs.Interned.{Kept, bytes_of_term, bytes_of_terms, with_term, fresh, IsDraftOf}
use Rattle.m3_intern.specs.Inside.{AreKept, AreNumbered}
use Rattle.m3_intern.proofs.TermLists.{distinct_with, fresh_behind, put_behind, each_put, few_terms}

-- a u32 names each kept term and each of a draft
pub draft_numbered : (kept : Kept) (draft : List Term) → IsDraftOf kept draft → kept.limit ≤ 2 ^ 36 → AreNumbered (kept.terms ++ draft)
draft_numbered kept draft is small = record { once = is.once; few = few_terms (kept.terms ++ draft) kept.limit is.within small }

-- the new ones of the wanted terms are a draft where what is needed stays within the limit
pub drafted : (kept : Kept) (wanted draft : List Term) (used cost need : ℕ) → draft ≡ fresh kept.terms wanted → AreKept kept.terms used kept.limit
    → cost ≡ min (bytes_of_terms draft) (2 ^ 64 - 1) → need ≡ min (used + cost) (2 ^ 64 - 1) → need ≤ kept.limit → IsDraftOf kept draft
drafted kept wanted draft used cost need e are c n within =
    let whole : kept.terms ++ draft ≡ fold with_term kept.terms wanted = ap (λ d. kept.terms ++ d) e ∙ fresh_behind kept.terms wanted in
    record {
      once = subst (IsDistinct term_eq) (sym whole) (distinct_with kept.terms wanted are.once);
      within = omega (arith, are.sum, are.small, sum_by-append bytes_of_term kept.terms draft);
    }

-- each wanted term is kept or new
pub wanted_there : (kept wanted draft : List Term) → draft ≡ fresh kept wanted → (term : Term) → Contains wanted term → Contains (kept ++ draft) term
wanted_there kept wanted draft e term c =
    subst (λ terms. Contains terms term) (sym (ap (λ d. kept ++ d) e ∙ fresh_behind kept wanted)) (each_put kept wanted term c)

-- kept terms behind which those of a draft are put are the kept terms and the draft's, and what they cost is added up
pub committed : (kept : Kept) (draft new : List Term) (used cost : ℕ) → IsDraftOf kept draft → AreKept kept.terms used kept.limit → cost ≡ bytes_of_terms draft
    → new ≡ fold with_term kept.terms draft → (new ≡ kept.terms ++ draft) × AreKept new (used + cost) kept.limit
committed kept draft new used cost is are c n =
    let whole : new ≡ kept.terms ++ draft = n ∙ put_behind kept.terms draft is.once in
    let sum : used + cost ≡ bytes_of_terms (kept.terms ++ draft) = omega (arith, are.sum, c, sum_by-append bytes_of_term kept.terms draft) in (
      whole,
      record {
        once = subst (IsDistinct term_eq) (sym whole) is.once;
        sum = sum ∙ ap bytes_of_terms (sym whole);
        within = omega (arith, is.within);
        small = are.small;
      },
    )
