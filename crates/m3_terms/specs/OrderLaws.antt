-- The laws of the order: it is total, and it answers `Equal` exactly where two values are one.
use Rattle.std.specs.Prelude.{◌≡◌, ℕ, Bool, List, Option, None, Some, ◌↔◌, nat_eq, refl}
use Rattle.std.specs.Option.{unwrap_or}
use Rattle.std.specs.Bool.{Decides}
use Rattle.std.specs.declared.cmp.Ordering.{Ordering}
use Rattle.std.specs.declared.cmp.Ordering.TheVariants.{Equal}
use Rattle.std.specs.Ordering.{eq_by_cmp, nat_cmp}
use Rattle.std.specs.Cmp.{IsTotalOrder, IsEquivalence, then_total, on_total, nat_cmp_total, nat_eq_equiv, on_equiv, and_equiv, both_tied, unsigned_ties, Equal-is, eq_by_cmp_equiv, first_so, second_so}
use Rattle.std.specs.Cmp.Lexicographic.{lists_total, lists_ties, lists_equiv, options_total, options_equiv, nat_list_cmp_total, nat_list_eq_equiv, texts_ties, bytes_decides, pointwise_decides}
use Rattle.m3_terms.specs.declared.term.Term.{Term}
use Rattle.m3_terms.specs.declared.term.Term.TheVariants.{Uri, Literal}
use Rattle.m3_terms.specs.declared.triple.Triple.{Triple}
use Rattle.m3_terms.specs.Order.{text_cmp, text_eq, kind, text_of, term_cmp, term_eq, triple_cmp, triple_eq, cell_cmp, cell_eq, row_cmp, row_eq}
use mathlib.Core.Path.{sym, ap, ◌∙◌}
use mathlib.Core.Bool.{◌&&◌}

-- ---- the order is total

pub text_cmp_total : IsTotalOrder text_cmp
text_cmp_total = nat_list_cmp_total

pub term_cmp_total : IsTotalOrder term_cmp
term_cmp_total = then_total (on_total kind nat_cmp_total) (on_total text_of text_cmp_total)

pub triple_cmp_total : IsTotalOrder triple_cmp
triple_cmp_total = then_total (on_total (λ t. t.subject) term_cmp_total)
    (then_total (on_total (λ t. t.predicate) term_cmp_total) (on_total (λ t. t.object) term_cmp_total))

pub cell_cmp_total : IsTotalOrder cell_cmp
cell_cmp_total = options_total term_cmp_total

pub row_cmp_total : IsTotalOrder row_cmp
row_cmp_total = lists_total cell_cmp_total

-- ---- equality is an equivalence

pub text_eq_equiv : IsEquivalence text_eq
text_eq_equiv = nat_list_eq_equiv

pub term_eq_equiv : IsEquivalence term_eq
term_eq_equiv = and_equiv (on_equiv kind nat_eq_equiv) (on_equiv text_of text_eq_equiv)

pub triple_eq_equiv : IsEquivalence triple_eq
triple_eq_equiv = and_equiv (on_equiv (λ t. t.subject) term_eq_equiv)
    (and_equiv (on_equiv (λ t. t.predicate) term_eq_equiv) (on_equiv (λ t. t.object) term_eq_equiv))

pub row_eq_equiv : IsEquivalence row_eq
row_eq_equiv = lists_equiv (options_equiv term_eq_equiv)

-- ---- two values are equal exactly where the order answers `Equal`

pub text_ties : (a b : List ℕ) → text_eq a b ≡ eq_by_cmp text_cmp a b
text_ties = texts_ties

pub term_ties : (a b : Term) → term_eq a b ≡ eq_by_cmp term_cmp a b
term_ties a b = both_tied (nat_eq (kind a) (kind b)) (text_eq (text_of a) (text_of b)) (nat_cmp (kind a) (kind b)) (text_cmp (text_of a) (text_of b))
    (unsigned_ties (kind a) (kind b)) (text_ties (text_of a) (text_of b))

pub triple_ties : (s t : Triple) → triple_eq s t ≡ eq_by_cmp triple_cmp s t
triple_ties s t = both_tied _ _ _ _ (term_ties s.subject t.subject)
    (both_tied _ _ _ _ (term_ties s.predicate t.predicate) (term_ties s.object t.object))

pub cell_ties : (a b : Option Term) → cell_eq a b ≡ eq_by_cmp cell_cmp a b
cell_ties None None = refl
cell_ties None (Some b) = refl
cell_ties (Some a) None = refl
cell_ties (Some a) (Some b) = term_ties a b

pub row_ties : (a b : List (Option Term)) → row_eq a b ≡ eq_by_cmp row_cmp a b
row_ties = lists_ties cell_cmp cell_ties

-- ---- and exactly where they are one

pub text_exact : (a b : List ℕ) → Decides (text_eq a b) (a ≡ b)
text_exact = bytes_decides

pub term_exact : (a b : Term) → Decides (term_eq a b) (a ≡ b)
term_exact (Uri a) (Uri b) = (λ same. ap Uri ((text_exact a b).0 same), λ one. (text_exact a b).1 (ap text_of one))
term_exact (Uri a) (Literal b) = (λ same. cc, λ one. cc)
term_exact (Literal a) (Uri b) = (λ same. cc, λ one. cc)
term_exact (Literal a) (Literal b) = (λ same. ap Literal ((text_exact a b).0 same), λ one. (text_exact a b).1 (ap text_of one))

pub triple_exact : (s t : Triple) → Decides (triple_eq s t) (s ≡ t)
triple_exact s t = (
  λ same.
      let rest = second_so (term_eq s.subject t.subject) (term_eq s.predicate t.predicate && term_eq s.object t.object) same in
      let subject = (term_exact s.subject t.subject).0 (first_so (term_eq s.subject t.subject) (term_eq s.predicate t.predicate && term_eq s.object t.object) same) in
      let predicate = (term_exact s.predicate t.predicate).0 (first_so (term_eq s.predicate t.predicate) (term_eq s.object t.object) rest) in
      let object = (term_exact s.object t.object).0 (second_so (term_eq s.predicate t.predicate) (term_eq s.object t.object) rest) in
      λ i. record { subject = subject i; predicate = predicate i; object = object i },
  λ one. triple_ties s t ∙ ap (eq_by_cmp triple_cmp s) (sym one) ∙ (eq_by_cmp_equiv triple_cmp_total).refl s,
)

pub cell_exact : (a b : Option Term) → Decides (cell_eq a b) (a ≡ b)
cell_exact None None = (λ same. refl, λ one. refl)
cell_exact None (Some b) = (λ same. cc, λ one. cc)
cell_exact (Some a) None = (λ same. cc, λ one. cc)
cell_exact (Some a) (Some b) = (λ same. ap Some ((term_exact a b).0 same), λ one. (term_exact a b).1 (ap (λ cell. unwrap_or cell a) one))

pub row_exact : (a b : List (Option Term)) → Decides (row_eq a b) (a ≡ b)
row_exact = pointwise_decides cell_exact

-- an order whose ties are equal, and whose equals are one, answers `Equal` exactly where two are one
equal_exact : {K : Type 0} (R : K → K → Ordering) (E : K → K → Bool) → ((a b : K) → E a b ≡ eq_by_cmp R a b)
    → ((a b : K) → Decides (E a b) (a ≡ b)) → (a b : K) → (R a b ≡ Equal) ↔ (a ≡ b)
equal_exact R E ties exact a b = (λ tie. (exact a b).0 (ties a b ∙ (Equal-is (R a b)).1 tie), λ one. (Equal-is (R a b)).0 (sym (ties a b) ∙ (exact a b).1 one))

-- the order of terms answers `Equal` exactly at one term
pub term_cmp_exact : (a b : Term) → (term_cmp a b ≡ Equal) ↔ (a ≡ b)
term_cmp_exact = equal_exact term_cmp term_eq term_ties term_exact

-- the order of triples answers `Equal` exactly at one triple
pub triple_cmp_exact : (s t : Triple) → (triple_cmp s t ≡ Equal) ↔ (s ≡ t)
triple_cmp_exact = equal_exact triple_cmp triple_eq triple_ties triple_exact

-- the order of rows answers `Equal` exactly at one row
pub row_cmp_exact : (a b : List (Option Term)) → (row_cmp a b ≡ Equal) ↔ (a ≡ b)
row_cmp_exact = equal_exact row_cmp row_eq row_ties row_exact

-- the order of texts answers `Equal` exactly at one text
pub text_cmp_exact : (a b : List ℕ) → (text_cmp a b ≡ Equal) ↔ (a ≡ b)
text_cmp_exact = equal_exact text_cmp text_eq text_ties text_exact
