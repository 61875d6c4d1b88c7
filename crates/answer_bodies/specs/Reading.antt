-- Which answer a body is read as.
use Rattle.std.specs.Prelude.{◌≡◌, ℕ, true, List, [], ◌∷◌, filter, Option, Some, None}
use Rattle.std.specs.List.{AllByRecursion, AllZip, IsDistinct, list_any}
use Rattle.m3_terms.specs.Term.{IsUriText, IsLiteralText, IsUri}
use Rattle.m3_terms.specs.Order.{text_eq, triple_cmp, row_cmp}
use Rattle.m3_terms.specs.declared.term.Term.{Term}
use Rattle.m3_terms.specs.declared.term.Term.TheVariants.{Uri, Literal}
use Rattle.m3_terms.specs.declared.triple.Triple.{Triple}
use Rattle.ssap_items.specs.declared.body.Kind as kind
use Rattle.ssap_items.specs.declared.body.RawTriple.{RawTriple}
use Rattle.ssap_items.specs.declared.body.RawCell.{RawCell}
use Rattle.ssap_items.specs.declared.body.RawTable.{RawTable}
use Rattle.ssap_items.specs.declared.body.Body as body
use Rattle.answer_bodies.specs.declared.answer.Answer.{Answer}
use Rattle.answer_bodies.specs.declared.answer.Answer.TheVariants.{Triples, Table}
use Rattle.answer_bodies.specs.Lists.{IsOrdered}

-- a text of this kind spells the term, a uri or a literal within its limits
abbrev pub IsTermOf : kind.Kind → List ℕ → Term → Type 0
IsTermOf kind.TheVariants.Uri text term = (term ≡ Uri text) × IsUriText text
IsTermOf kind.TheVariants.Literal text term = (term ≡ Literal text) × IsLiteralText text
IsTermOf kind.TheVariants.Bnode text term = ⊥

-- the triple has the terms that are spelled, and its subject and its predicate are uris
pub record IsTripleOf (raw : RawTriple) (triple : Triple) : Type 0 where
  pub subject : IsTermOf raw.subject.kind raw.subject.text triple.subject
  pub uri : IsUri triple.subject
  pub predicate : IsTermOf kind.TheVariants.Uri raw.predicate triple.predicate
  pub object : IsTermOf raw.object.kind raw.object.text triple.object

-- the bindings of this name
abbrev pub named : List ℕ → List RawCell → List RawCell
named name cells = filter (λ cell. text_eq cell.name name) cells

-- a row's cell in the column of this name: unbound where no binding has the name, and else the term of the one that has it
abbrev pub IsCellOf : List RawCell → List ℕ → Option Term → Type 0
IsCellOf cells name None = named name cells ≡ []
IsCellOf cells name (Some term) = (cell : RawCell) × (named name cells ≡ cell ∷ []) × IsTermOf cell.value.kind cell.value.text term

-- the binding names one of the columns
abbrev pub IsKnown : List (List ℕ) → RawCell → Type 0
IsKnown columns cell = list_any (λ name. text_eq name cell.name) columns ≡ true

-- the row has the cells that are spelled, in the order of columns
pub record IsRowOf (columns : List (List ℕ)) (cells : List RawCell) (row : List (Option Term)) : Type 0 where
  pub known : AllByRecursion (IsKnown columns) cells
  pub each : AllZip (IsCellOf cells) columns row

-- the triples are those that are spelled, of which none is doubled, in their order
pub record AreTriplesOf (raws : List RawTriple) (triples : List Triple) : Type 0 where
  pub given : List Triple
  pub each : AllZip IsTripleOf raws given
  pub ordered : IsOrdered triple_cmp given triples

-- the columns are those that are spelled, of which none is doubled, and so are the rows, in their order
pub record IsTableOf (raw : RawTable) (columns : List (List ℕ)) (rows : List (List (Option Term))) : Type 0 where
  pub names : columns ≡ raw.columns
  pub distinct : IsDistinct text_eq raw.columns
  pub given : List (List (Option Term))
  pub each : AllZip (IsRowOf raw.columns) raw.rows given
  pub ordered : IsOrdered row_cmp given rows

-- a body is read as an answer
abbrev pub IsReadAs : body.Body → Answer → Type 0
IsReadAs (body.TheVariants.Text text) answer = ⊥
IsReadAs (body.TheVariants.Triples raws) (Triples triples) = AreTriplesOf raws triples
IsReadAs (body.TheVariants.Triples raws) (Table columns rows) = ⊥
IsReadAs (body.TheVariants.Table raw) (Triples triples) = ⊥
IsReadAs (body.TheVariants.Table raw) (Table columns rows) = IsTableOf raw columns rows

-- a body is read as no answer
abbrev pub HasNoAnswer : body.Body → Type 0
HasNoAnswer body = (answer : Answer) → ¬ (IsReadAs body answer)
