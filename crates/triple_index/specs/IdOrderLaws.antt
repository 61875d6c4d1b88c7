-- The order of triples of numbers is total, and it answers `Equal` exactly where two triples are one.
use Rattle.std.proofs.Common.{◌≡◌, ℕ, ◌&&◌, sym, ap, ◌∙◌}
use Rattle.std.proofs.lemmas.Bool.Decides.{Decides-eqb}
use Rattle.std.proofs.lemmas.Map.Lookups.{CmpEqualImpliesEq}
use Rattle.std.specs.Bool.{Decides}
use Rattle.std.specs.Cmp.{IsTotalOrder, IsEquivalence, then_total, on_total, nat_cmp_total, nat_eq_equiv, on_equiv, and_equiv, both_tied, unsigned_ties, Equal-is, eq_by_cmp_equiv, first_so, second_so}
use Rattle.std.specs.Ordering.{eq_by_cmp}
use Rattle.m3_terms.specs.declared.table.TermId.{TermId}
use Rattle.triple_index.specs.declared.triple.IdTriple.{IdTriple}
use Rattle.triple_index.specs.IdOrder.{id_cmp, id_eq, id_triple_cmp, id_triple_eq}

pub id_cmp_total : IsTotalOrder id_cmp
id_cmp_total = on_total (λ id. id.0) nat_cmp_total

pub id_triple_cmp_total : IsTotalOrder id_triple_cmp
id_triple_cmp_total = then_total (on_total (λ t. t.subject) id_cmp_total)
    (then_total (on_total (λ t. t.predicate) id_cmp_total) (on_total (λ t. t.object) id_cmp_total))

-- two triples are equal exactly where the order answers `Equal`
pub id_triple_ties : (s t : IdTriple) → id_triple_eq s t ≡ eq_by_cmp id_triple_cmp s t
id_triple_ties s t = both_tied _ _ _ _ (unsigned_ties s.subject.0 t.subject.0)
    (both_tied _ _ _ _ (unsigned_ties s.predicate.0 t.predicate.0) (unsigned_ties s.object.0 t.object.0))

-- two numbers of terms are equal exactly where they are one
pub id_exact : (a b : TermId) → Decides (id_eq a b) (a ≡ b)
id_exact a b = (λ same. ap (λ (n : ℕ). record { 0 = n }) ((Decides-eqb a.0 b.0).0 same), λ one. (Decides-eqb a.0 b.0).1 (ap (λ (id : TermId). id.0) one))

-- two triples are equal exactly where they are one
pub id_triple_exact : (s t : IdTriple) → Decides (id_triple_eq s t) (s ≡ t)
id_triple_exact s t = (
  λ same.
      let rest = second_so (id_eq s.subject t.subject) (id_eq s.predicate t.predicate && id_eq s.object t.object) same in
      let subject = (id_exact s.subject t.subject).0 (first_so (id_eq s.subject t.subject) (id_eq s.predicate t.predicate && id_eq s.object t.object) same) in
      let predicate = (id_exact s.predicate t.predicate).0 (first_so (id_eq s.predicate t.predicate) (id_eq s.object t.object) rest) in
      let object = (id_exact s.object t.object).0 (second_so (id_eq s.predicate t.predicate) (id_eq s.object t.object) rest) in
      λ i. record { subject = subject i; predicate = predicate i; object = object i },
  λ one. id_triple_ties s t ∙ ap (eq_by_cmp id_triple_cmp s) (sym one) ∙ (eq_by_cmp_equiv id_triple_cmp_total).refl s,
)

-- two triples that compare alike are one
pub id_triple_one : CmpEqualImpliesEq id_triple_cmp
id_triple_one s t tie = (id_triple_exact s t).0 (id_triple_ties s t ∙ (Equal-is (id_triple_cmp s t)).1 tie)

-- equality of triples is an equivalence
pub id_triple_eq_equiv : IsEquivalence id_triple_eq
id_triple_eq_equiv = and_equiv (on_equiv (λ t. t.subject) (on_equiv (λ id. id.0) nat_eq_equiv))
    (and_equiv (on_equiv (λ t. t.predicate) (on_equiv (λ id. id.0) nat_eq_equiv)) (on_equiv (λ t. t.object) (on_equiv (λ id. id.0) nat_eq_equiv)))
