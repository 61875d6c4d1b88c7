-- The rows of triples in order stand once.
use Rattle.std.proofs.Common.{◌≡◌, ℕ, zero, suc, ◌<◌, List, [], ◌∷◌, Some, length, get_or, take, map, Contains, refl, sym, ap, subst, ◌∙◌, arith}
use Rattle.std.proofs.lemmas.List.Elements.{All-contains, Contains-get_or}
use Rattle.std.proofs.lemmas.Map.Keys.{sorted_tail}
use Rattle.std.proofs.lemmas.Map.Views.{All-after_first}
use Rattle.std.proofs.lemmas.Option.{same_Some}
use Rattle.std.specs.declared.cmp.Ordering.TheVariants.{Less}
use mathlib.Core.Logic.{⊎_elim}
use Rattle.m3_terms.specs.InsertedLaws.{cons_cases}
use Rattle.m3_terms.specs.declared.table.TermId.{TermId}
use Rattle.sparql_algebra.specs.Solutions.{bound}
use Rattle.sparql_algebra.specs.declared.mapping.Binding.{Binding}
use Rattle.triple_index.specs.Changes.{AreOrdered}
use Rattle.triple_index.specs.GraphLaws.{none_in, not_below_itself}
use Rattle.triple_index.specs.IdOrder.{id_triple_cmp}
use Rattle.triple_index.specs.IdOrderLaws.{id_triple_cmp_total}
use Rattle.triple_index.specs.declared.triple.IdTriple.{IdTriple}
use Rattle.pattern_join.specs.Rows.{row}

-- what a variable is bound to in the rows of two triples whose rows are one
same_at : (s t : IdTriple) (var : ℕ) (a b : TermId) → row s ≡ row t → bound (row s) (record { 0 = var }) ≡ Some a → bound (row t) (record { 0 = var }) ≡ Some b → a ≡ b
same_at s t var a b e f g = same_Some a b (sym f ∙ ap (λ (l : List Binding). bound l (record { 0 = var })) e ∙ g)

-- no two triples have one row
row_one : (s t : IdTriple) → row s ≡ row t → s ≡ t
row_one s t e =
    let subject = same_at s t 0 s.subject t.subject e refl refl in
    let predicate = same_at s t 1 s.predicate t.predicate e refl refl in
    let object = same_at s t 2 s.object t.object e refl refl in
    λ i. record { subject = subject i; predicate = predicate i; object = object i }

-- the row of a triple is not among those of the triples before it
pub row_new : (triples : List IdTriple) (at : ℕ) (d : IdTriple) → AreOrdered triples → at < length triples
    → Contains (map row (take at triples)) (row (get_or triples at d)) → ⊥
row_new [] at d ordered h c = absurd (omega arith)
row_new (t ∷ ts) zero d ordered h c = none_in (row t) c
row_new (t ∷ ts) (suc at) d ordered h c = ⊎_elim
    (λ e.
    let later : id_triple_cmp t (get_or ts at d) ≡ Less =
    All-contains (λ u. id_triple_cmp t u ≡ Less) ts (get_or ts at d) (All-after_first id_triple_cmp t ts ordered) (Contains-get_or ts at d (omega arith)) in
    not_below_itself id_triple_cmp_total t (subst (λ u. id_triple_cmp t u ≡ Less) (sym (row_one t (get_or ts at d) e)) later))
    (λ rest. row_new ts at d (sorted_tail id_triple_cmp t ts ordered) (omega arith) rest)
    (cons_cases (row t) (map row (take at ts)) (row (get_or ts at d)) c)

-- so it is not among rows of those
pub row_absent : (triples items : List IdTriple) (rows : List (List Binding)) (at : ℕ) (d : IdTriple) → items ≡ triples → AreOrdered triples → at < length items
    → rows ≡ map row (take at items) → Contains rows (row (get_or items at d)) → ⊥
row_absent triples items rows at d e ordered h r c =
    row_new items at d (subst AreOrdered (sym e) ordered) h (subst (λ l. Contains l (row (get_or items at d))) r c)
