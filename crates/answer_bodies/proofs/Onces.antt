-- A body is read as at most one answer.
use Rattle.std.proofs.Common.{◌≡◌, ℕ, List, [], Option, Some, None, sym, ap, subst, ◌∙◌}
use Rattle.std.specs.List.{AllZip}
use Rattle.m3_terms.specs.Order.{triple_cmp, row_cmp}
use Rattle.m3_terms.specs.OrderLaws.{triple_cmp_total, row_cmp_total, triple_cmp_exact, row_cmp_exact}
use Rattle.m3_terms.specs.declared.term.Term.{Term}
use Rattle.m3_terms.specs.declared.triple.Triple.{Triple}
use Rattle.m3_terms.proofs.Lists.{heads_same}
use Rattle.ssap_items.specs.declared.body.Kind as kind
use Rattle.ssap_items.specs.declared.body.RawTriple.{RawTriple}
use Rattle.ssap_items.specs.declared.body.RawCell.{RawCell}
use Rattle.ssap_items.specs.declared.body.RawTable.{RawTable}
use Rattle.ssap_items.specs.declared.body.Body as body
use Rattle.answer_bodies.specs.declared.answer.Answer.TheVariants.{Triples, Table}
use Rattle.answer_bodies.specs.Laws.{ReadsOnce}
use Rattle.answer_bodies.specs.Lists.{IsOrdered}
use Rattle.answer_bodies.specs.Reading.{IsTermOf, IsTripleOf, IsCellOf, IsRowOf, AreTriplesOf, IsTableOf}
use Rattle.answer_bodies.proofs.Zips.{zip_once}
use Rattle.answer_bodies.proofs.Orders.{ordered_once}

-- a text of one kind spells at most one term
term_once : (k : kind.Kind) (text : List ℕ) (term other : Term) → IsTermOf k text term → IsTermOf k text other → term ≡ other
term_once kind.TheVariants.Uri text term other is was = is.0 ∙ sym was.0
term_once kind.TheVariants.Literal text term other is was = is.0 ∙ sym was.0
term_once kind.TheVariants.Bnode text term other is was = absurd is

-- so does a triple
triple_once : (raw : RawTriple) (triple other : Triple) → IsTripleOf raw triple → IsTripleOf raw other → triple ≡ other
triple_once raw triple other is was = λ i. record {
  subject = term_once raw.subject.kind raw.subject.text triple.subject other.subject is.subject was.subject i;
  predicate = term_once kind.TheVariants.Uri raw.predicate triple.predicate other.predicate is.predicate was.predicate i;
  object = term_once raw.object.kind raw.object.text triple.object other.object is.object was.object i;
}

-- so does a row in a column
cell_once : (cells : List RawCell) (name : List ℕ) (cell other : Option Term) → IsCellOf cells name cell → IsCellOf cells name other → cell ≡ other
cell_once cells name None None is was = λ i. None
cell_once cells name None (Some other) is was = absurd (let e = sym is ∙ was.1 in cc)
cell_once cells name (Some term) None is was = absurd (let e = sym was ∙ is.1 in cc)
cell_once cells name (Some term) (Some other) is was =
    let one = heads_same is.0 was.0 [] [] (sym is.1 ∙ was.1) in
    ap Some (term_once was.0.value.kind was.0.value.text term other
    (subst (λ (cell : RawCell). IsTermOf cell.value.kind cell.value.text term) one is.2) was.2)

-- so does a row
row_once : (columns : List (List ℕ)) (cells : List RawCell) (row other : List (Option Term)) → IsRowOf columns cells row → IsRowOf columns cells other → row ≡ other
row_once columns cells row other is was = zip_once (IsCellOf cells) (cell_once cells) columns row other is.each was.each

-- triples are spelled by at most one list of them
pub triples_once : (raws : List RawTriple) (given other : List Triple) → AllZip IsTripleOf raws given → AllZip IsTripleOf raws other → given ≡ other
triples_once raws given other is was = zip_once IsTripleOf triple_once raws given other is was

-- and so are rows
pub rows_once : (columns : List (List ℕ)) (raws : List (List RawCell)) (given other : List (List (Option Term))) → AllZip (IsRowOf columns) raws given
    → AllZip (IsRowOf columns) raws other → given ≡ other
rows_once columns raws given other is was = zip_once (IsRowOf columns) (row_once columns) raws given other is was

answer_triples : (raws : List RawTriple) (triples other : List Triple) → AreTriplesOf raws triples → AreTriplesOf raws other → triples ≡ other
answer_triples raws triples other is was =
    let one = triples_once raws is.given was.given is.each was.each in
    ordered_once triple_cmp_total (λ s t. (triple_cmp_exact s t).0) was.given triples other (subst (λ given. IsOrdered triple_cmp given triples) one is.ordered) was.ordered

answer_rows : (raw : RawTable) (columns others : List (List ℕ)) (rows other : List (List (Option Term))) → IsTableOf raw columns rows → IsTableOf raw others other
    → rows ≡ other
answer_rows raw columns others rows other is was =
    let one = rows_once raw.columns raw.rows is.given was.given is.each was.each in
    ordered_once row_cmp_total (λ a b. (row_cmp_exact a b).0) was.given rows other (subst (λ given. IsOrdered row_cmp given rows) one is.ordered) was.ordered

-- a body is read as at most one answer
pub reads_once : ReadsOnce
reads_once (body.TheVariants.Text text) answer other is was = absurd is
reads_once (body.TheVariants.Triples raws) (Triples triples) (Triples other) is was = ap Triples (answer_triples raws triples other is was)
reads_once (body.TheVariants.Triples raws) (Triples triples) (Table columns rows) is was = absurd was
reads_once (body.TheVariants.Triples raws) (Table columns rows) other is was = absurd is
reads_once (body.TheVariants.Table raw) (Triples triples) other is was = absurd is
reads_once (body.TheVariants.Table raw) (Table columns rows) (Triples triples) is was = absurd was
reads_once (body.TheVariants.Table raw) (Table columns rows) (Table others other) is was =
    let names = is.names ∙ sym was.names in
    let lines = answer_rows raw columns others rows other is was in
    λ i. Table (names i) (lines i)
