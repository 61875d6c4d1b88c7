-- Why a body is read as no answer.
use Rattle.std.specs.Prelude.{◌≡◌, ◌⊎◌, ℕ, ◌<◌, false, List, length, Option, ⊤}
use Rattle.std.specs.List.{Any, AllZip, IsDistinct, list_any}
use Rattle.m3_terms.specs.Term.{IsUriText, IsLiteralText}
use Rattle.m3_terms.specs.Order.{text_eq, triple_eq, row_eq}
use Rattle.m3_terms.specs.declared.term.Term.{Term}
use Rattle.m3_terms.specs.declared.triple.Triple.{Triple}
use Rattle.ssap_items.specs.declared.body.Kind as kind
use Rattle.ssap_items.specs.declared.body.RawTriple.{RawTriple}
use Rattle.ssap_items.specs.declared.body.RawCell.{RawCell}
use Rattle.ssap_items.specs.declared.body.RawTable.{RawTable}
use Rattle.ssap_items.specs.declared.body.Body as body
use Rattle.answer_bodies.specs.Reading.{IsTripleOf, IsRowOf, named}

-- a term is refused: its text is no uri's or no literal's, or it is a blank node
abbrev pub IsRefused : kind.Kind → List ℕ → Type 0
IsRefused kind.TheVariants.Uri text = ¬ (IsUriText text)
IsRefused kind.TheVariants.Literal text = ¬ (IsLiteralText text)
IsRefused kind.TheVariants.Bnode text = ⊤

-- a triple is refused: one of its terms is, or its subject is a literal
abbrev pub IsNoTriple : RawTriple → Type 0
IsNoTriple raw = IsRefused raw.subject.kind raw.subject.text ⊎ ((raw.subject.kind ≡ kind.TheVariants.Literal)
    ⊎ (IsRefused kind.TheVariants.Uri raw.predicate ⊎ IsRefused raw.object.kind raw.object.text))

-- a name has no cell: two bindings have it, or a term is refused
abbrev pub IsNoCell : List RawCell → List ℕ → Type 0
IsNoCell cells name = (1 < length (named name cells)) ⊎ Any (λ cell. IsRefused cell.value.kind cell.value.text) cells

-- a row is refused: a binding names none of the columns, two bindings have one name, or a term is refused
abbrev pub IsNoRow : List (List ℕ) → List RawCell → Type 0
IsNoRow columns cells = Any (λ cell. list_any (λ name. text_eq name cell.name) columns ≡ false) cells
    ⊎ (((name : List ℕ) × (1 < length (named name cells))) ⊎ Any (λ cell. IsRefused cell.value.kind cell.value.text) cells)

-- triples are no answer: one of them is refused, or is doubled
abbrev pub AreNoTriples : List RawTriple → Type 0
AreNoTriples raws = Any IsNoTriple raws
    ⊎ ((given : List Triple) × AllZip IsTripleOf raws given × ¬ (IsDistinct triple_eq given))

-- a table is no answer: a column is doubled, a row is refused, or a row is doubled
abbrev pub IsNoTable : RawTable → Type 0
IsNoTable raw = ¬ (IsDistinct text_eq raw.columns) ⊎ (Any (IsNoRow raw.columns) raw.rows
    ⊎ ((given : List (List (Option Term))) × AllZip (IsRowOf raw.columns) raw.rows given × ¬ (IsDistinct row_eq given)))

-- why a body is read as no answer
abbrev pub WhyNot : body.Body → Type 0
WhyNot (body.TheVariants.Text text) = ⊤
WhyNot (body.TheVariants.Triples raws) = AreNoTriples raws
WhyNot (body.TheVariants.Table raw) = IsNoTable raw
