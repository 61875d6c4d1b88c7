-- Which body carries an answer.
use Rattle.std.specs.Prelude.{◌≡◌, ℕ, List, [], ◌∷◌, ◌++◌, map, length, Option, Some, None, ⊤}
use Rattle.std.specs.List.{AllByRecursion}
use Rattle.m3_terms.specs.Order.{text_of}
use Rattle.m3_terms.specs.declared.term.Term.{Term}
use Rattle.m3_terms.specs.declared.term.Term.TheVariants.{Uri, Literal}
use Rattle.m3_terms.specs.declared.triple.Triple.{Triple}
use Rattle.ssap_items.specs.declared.body.Kind as kind
use Rattle.ssap_items.specs.declared.body.RawTerm.{RawTerm}
use Rattle.ssap_items.specs.declared.body.RawTriple.{RawTriple}
use Rattle.ssap_items.specs.declared.body.RawCell.{RawCell}
use Rattle.ssap_items.specs.declared.body.Body as body
use Rattle.answer_bodies.specs.declared.answer.Answer.{Answer}
use Rattle.answer_bodies.specs.declared.answer.Answer.TheVariants.{Triples, Table}

-- a term as a body spells it
abbrev pub raw_term : Term → RawTerm
raw_term (Uri text) = record { kind = kind.TheVariants.Uri; text = text }
raw_term (Literal text) = record { kind = kind.TheVariants.Literal; text = text }

-- a triple as a body spells it
abbrev pub raw_triple : Triple → RawTriple
raw_triple triple = record {
  subject = raw_term triple.subject;
  predicate = text_of triple.predicate;
  object = raw_term triple.object;
}

-- a column's cell as a body spells it: nothing where it is unbound
abbrev pub raw_cell : List ℕ → Option Term → List RawCell
raw_cell name None = []
raw_cell name (Some term) = record { name = name; value = raw_term term } ∷ []

-- a row as a body spells it: its bound cells in the order of columns
abbrev pub raw_row : List (List ℕ) → List (Option Term) → List RawCell
raw_row [] cells = []
raw_row (name ∷ names) [] = []
raw_row (name ∷ names) (cell ∷ cells) = raw_cell name cell ++ raw_row names cells

-- the body that carries an answer
abbrev pub body_of : Answer → body.Body
body_of (Triples triples) = body.TheVariants.Triples (map raw_triple triples)
body_of (Table columns rows) = body.TheVariants.Table (record { columns = columns; rows = map (raw_row columns) rows })

-- each row has one cell for each column
abbrev pub AreFull : List (List ℕ) → List (List (Option Term)) → Type 0
AreFull columns rows = AllByRecursion (λ row. length row ≡ length columns) rows

-- each row of a table has one cell for each column
abbrev pub IsFull : Answer → Type 0
IsFull (Triples triples) = ⊤
IsFull (Table columns rows) = AreFull columns rows
