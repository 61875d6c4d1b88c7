-- An answer after a difference, by the form that both have.
use Rattle.std.proofs.Common.{◌≡◌, ℕ, List, Option, Result, Ok, Err, OnOk, sym, ap, ◌∙◌}
use Rattle.m3_terms.specs.Order.{triple_cmp, row_cmp}
use Rattle.m3_terms.specs.declared.memory.NoMemory.{NoMemory}
use Rattle.m3_terms.specs.declared.term.Term.{Term}
use Rattle.m3_terms.specs.declared.triple.Triple.{Triple}
use Rattle.answer_bodies.specs.Differences.{without_rows, with_rows, folded}
use Rattle.answer_bodies.specs.Lists.{without, with_all}
use Rattle.answer_bodies.specs.declared.answer.Answer.{Answer}
use Rattle.answer_bodies.specs.declared.answer.Answer.TheVariants.{Triples, Table}
use Rattle.answer_bodies.specs.declared.answer.Difference.{Difference}

-- the answer and the sides of the difference are triples
pub triples_folded : (result : Result Unit NoMemory) (answer : Answer) (difference : Difference) (old gone more new : List Triple)
    → answer ≡ Triples old → difference.obsolete ≡ Triples gone → difference.added ≡ Triples more
    → OnOk result (new ≡ with_all triple_cmp (without triple_cmp old gone) more) → OnOk result (Triples new ≡ folded answer difference)
triples_folded (Ok done) answer difference old gone more new is goes comes e = ap Triples e ∙ sym (λ i. with_rows (without_rows (is i) (goes i)) (comes i))
triples_folded (Err fault) answer difference old gone more new is goes comes e = e

-- they are tables
pub table_folded : (result : Result Unit NoMemory) (answer : Answer) (difference : Difference) (columns names others : List (List ℕ)) (old gone more new : List (List (Option Term)))
    → answer ≡ Table columns old → difference.obsolete ≡ Table names gone → difference.added ≡ Table others more
    → OnOk result (new ≡ with_all row_cmp (without row_cmp old gone) more) → OnOk result (Table columns new ≡ folded answer difference)
table_folded (Ok done) answer difference columns names others old gone more new is goes comes e =
    ap (Table columns) e ∙ sym (λ i. with_rows (without_rows (is i) (goes i)) (comes i))
table_folded (Err fault) answer difference columns names others old gone more new is goes comes e = e
