-- What an interner keeps, what a draft adds to it, and what terms cost.
use Rattle.std.specs.Prelude.{◌≡◌, ◌≤◌, ◌<◌, ◌+◌, ◌-◌, ◌^◌, ℕ, Bool, not, min, List, [], ◌∷◌, ◌++◌, length, filter, fold, sum_by, if◌then◌else◌, refl, ⊤}
use Rattle.std.specs.List.{list_any, IsDistinct}
use Rattle.m3_terms.specs.Order.{text_of, term_eq}
use Rattle.m3_terms.specs.declared.term.Term.{Term}
use Rattle.m3_terms.specs.declared.term.Term.TheVariants.{Uri, Literal}
use Rattle.m3_intern.specs.declared.fault.InternFault.{InternFault}
use Rattle.m3_intern.specs.declared.fault.InternFault.TheVariants.{Full, NoMemory}

-- what contracts see of an interner: the kept terms by their numbers, the most that they may cost, and how many terms
-- more fit without memory
pub record Kept : Type 0 where
  pub terms : List Term
  pub limit : ℕ
  pub room : ℕ

-- a term costs its text's bytes and 32
abbrev pub bytes_of_term : Term → ℕ
bytes_of_term term = length (text_of term) + 32

-- what terms cost together
abbrev pub bytes_of_terms : List Term → ℕ
bytes_of_terms terms = sum_by bytes_of_term terms

-- a term is one of the terms
abbrev pub is_among : List Term → Term → Bool
is_among terms term = list_any (term_eq term) terms

-- the terms with one more behind them, unless it is one of them
abbrev pub with_term : List Term → Term → List Term
with_term terms term = if is_among terms term then terms else terms ++ term ∷ []

-- each of the terms once, in the order in which they first occur
abbrev pub distinct : List Term → List Term
distinct terms = fold with_term [] terms

-- the distinct ones of the wanted terms that are not kept
abbrev pub fresh : List Term → List Term → List Term
fresh kept wanted = distinct (filter (λ term. not (is_among kept term)) wanted)

-- a draft is one of this interner: its terms are new, each stands once, and all together stay within the limit
pub record IsDraftOf (kept : Kept) (draft : List Term) : Type 0 where
  pub once : IsDistinct term_eq (kept.terms ++ draft)
  pub within : bytes_of_terms (kept.terms ++ draft) ≤ kept.limit

-- why wanted terms are refused: with them the terms would cost so much, which is more than the limit. A sum past the
-- greatest u64 counts as that number.
abbrev pub IsRefused : Kept → List Term → InternFault → Type 0
IsRefused kept wanted (Full need) = (need ≡ min (bytes_of_terms (kept.terms ++ fresh kept.terms wanted)) (2 ^ 64 - 1)) × (kept.limit < need)
IsRefused kept wanted NoMemory = ⊤

-- the uri `aa` costs 34
example_cost : bytes_of_terms (Uri (97 ∷ 97 ∷ []) ∷ []) ≡ 34
example_cost = refl

-- of the wanted b, a, b and c, where a is kept, b and c are new
example_fresh : fresh (Uri (97 ∷ []) ∷ []) (Uri (98 ∷ []) ∷ Uri (97 ∷ []) ∷ Uri (98 ∷ []) ∷ Uri (99 ∷ []) ∷ []) ≡ Uri (98 ∷ []) ∷ Uri (99 ∷ []) ∷ []
example_fresh = refl

-- the literal a is another term than the uri a
example_kind : fresh (Uri (97 ∷ []) ∷ []) (Literal (97 ∷ []) ∷ []) ≡ Literal (97 ∷ []) ∷ []
example_kind = refl
