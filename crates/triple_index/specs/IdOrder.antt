-- The order of triples of numbers.
use Rattle.std.specs.Prelude.{◌≡◌, Bool, nat_eq, refl}
use Rattle.std.specs.Ordering.{nat_cmp, on, then_cmp, eq_of_both}
use Rattle.std.specs.declared.cmp.Ordering.{Ordering}
use Rattle.std.specs.declared.cmp.Ordering.TheVariants.{Less}
use Rattle.m3_terms.specs.declared.table.TermId.{TermId}
use Rattle.triple_index.specs.declared.triple.IdTriple.{IdTriple}

-- two numbers of terms are ordered as numbers
abbrev pub id_cmp : TermId → TermId → Ordering
id_cmp = on (λ id. id.0) nat_cmp

-- whether two numbers of terms are one
abbrev pub id_eq : TermId → TermId → Bool
id_eq = on (λ id. id.0) nat_eq

-- triples are ordered by subject, then by predicate, then by object
abbrev pub id_triple_cmp : IdTriple → IdTriple → Ordering
id_triple_cmp = then_cmp (on (λ t. t.subject) id_cmp) (then_cmp (on (λ t. t.predicate) id_cmp) (on (λ t. t.object) id_cmp))

-- whether two triples have the same subject, predicate and object
abbrev pub id_triple_eq : IdTriple → IdTriple → Bool
id_triple_eq = eq_of_both (on (λ t. t.subject) id_eq) (eq_of_both (on (λ t. t.predicate) id_eq) (on (λ t. t.object) id_eq))

-- the subject decides before the predicate and the object
subject_first : id_triple_cmp (record { subject = record { 0 = 1 }; predicate = record { 0 = 9 }; object = record { 0 = 9 } })
    (record { subject = record { 0 = 2 }; predicate = record { 0 = 0 }; object = record { 0 = 0 } }) ≡ Less
subject_first = refl
