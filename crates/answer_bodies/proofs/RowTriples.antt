-- Rows of three numbers that are one triple are one row.
use Rattle.std.proofs.Common.{◌≡◌, ℕ, List, filter_map, Option, Some, None, sym, ap, subst, ◌∙◌}
use Rattle.std.proofs.lemmas.Option.{same_Some}
use Rattle.std.specs.List.{IsDistinct}
use Rattle.std.specs.Ordering.{eq_by_cmp}
use Rattle.m3_terms.specs.Order.{triple_cmp, triple_eq}
use Rattle.m3_terms.specs.OrderLaws.{triple_exact, triple_ties}
use Rattle.m3_terms.specs.Pattern.{triple_with}
use Rattle.m3_terms.specs.TermTable.{NamesOnce}
use Rattle.m3_terms.specs.declared.term.Term.{Term}
use Rattle.m3_terms.specs.declared.term.Term.TheVariants.{Uri, Literal}
use Rattle.m3_terms.specs.declared.triple.Triple.{Triple}
use Rattle.sparql_algebra.specs.Solutions.{solution_eq, three}
use Rattle.sparql_algebra.specs.SolutionLaws.{solution_exact}
use Rattle.sparql_algebra.specs.declared.mapping.Binding.{Binding}
use Rattle.answer_bodies.specs.OfRows.{triple_of_row, IsTripleRow, AreTripleRows}
use Rattle.answer_bodies.proofs.DistinctItems.{distinct_values}

-- three terms are those of the triple that they are
pub triple_terms : (a b c : Option Term) (q : Triple) → triple_with a b c ≡ Some q → (a ≡ Some q.subject) × (b ≡ Some q.predicate) × (c ≡ Some q.object)
triple_terms None b c q h = cc
triple_terms (Some (Literal s)) b c q h = cc
triple_terms (Some (Uri s)) None c q h = cc
triple_terms (Some (Uri s)) (Some (Literal p)) c q h = cc
triple_terms (Some (Uri s)) (Some (Uri p)) None q h = cc
triple_terms (Some (Uri s)) (Some (Uri p)) (Some o) q h =
    let e = same_Some _ q h in
    (ap (λ (t : Triple). Some t.subject) e, ap (λ (t : Triple). Some t.predicate) e, ap (λ (t : Triple). Some t.object) e)

-- two rows of three numbers are one where they are one triple
one_row : (terms : ℕ → Option Term) → NamesOnce terms → (x y : List Binding) (t : Triple) → IsTripleRow terms x → IsTripleRow terms y
    → triple_of_row terms x ≡ Some t → triple_of_row terms y ≡ Some t → x ≡ y
one_row terms once x y t p q h k =
    let a = triple_terms _ _ _ t (subst (λ row. triple_of_row terms row ≡ Some t) p.numbers h) in
    let b = triple_terms _ _ _ t (subst (λ row. triple_of_row terms row ≡ Some t) q.numbers k) in
    let subject = once p.subject.0 q.subject.0 t.subject a.0 b.0 in
    let predicate = once p.predicate.0 q.predicate.0 t.predicate a.1 b.1 in
    let object = once p.object.0 q.object.0 t.object a.2 b.2 in
    p.numbers ∙ (λ i. three (record { 0 = subject i }) (record { 0 = predicate i }) (record { 0 = object i })) ∙ sym q.numbers

-- the triples of distinct rows are distinct
pub distinct_triples : (terms : ℕ → Option Term) (rows : List (List Binding)) → NamesOnce terms → AreTripleRows terms rows → IsDistinct solution_eq rows
    → IsDistinct (eq_by_cmp triple_cmp) (filter_map (triple_of_row terms) rows)
distinct_triples terms rows once are distinct =
    subst (λ e. IsDistinct e (filter_map (triple_of_row terms) rows)) (λ i s t. triple_ties s t i)
    (distinct_values solution_eq triple_eq (IsTripleRow terms) (triple_of_row terms) solution_exact triple_exact (one_row terms once) rows are distinct)
