-- Which envelopes have a spelling: their texts are texts, and no subject is a literal.
use Rattle.std.specs.Prelude.{◌≢◌, IfSome}
use Rattle.std.specs.List.{AllByRecursion}
use Rattle.m3_terms.specs.Text.{IsText}
use Rattle.ssap_items.specs.declared.body.Kind.TheVariants.{Literal}
use Rattle.ssap_items.specs.declared.body.RawTriple.{RawTriple}
use Rattle.ssap_items.specs.declared.body.RawCell.{RawCell}
use Rattle.ssap_items.specs.declared.body.Body.{Body}
use Rattle.ssap_items.specs.declared.body.Body.TheVariants.{Text, Triples, Table}
use Rattle.ssap_items.specs.declared.envelope.Param.{Param}
use Rattle.ssap_items.specs.declared.envelope.Envelope.{Envelope}

-- a triple of texts whose subject is no literal
pub record IsSayableTriple (triple : RawTriple) : Type 0 where
  pub subject : IsText triple.subject.text
  pub predicate : IsText triple.predicate
  pub object : IsText triple.object.text
  pub kind : triple.subject.kind ≢ Literal

-- a cell of texts
pub record IsSayableCell (cell : RawCell) : Type 0 where
  pub name : IsText cell.name
  pub value : IsText cell.value.text

-- a content of texts, and of such triples or cells
abbrev pub IsSayableBody : Body → Type 0
IsSayableBody (Text value) = IsText value
IsSayableBody (Triples values) = AllByRecursion IsSayableTriple values
IsSayableBody (Table table) = AllByRecursion IsText table.columns × AllByRecursion (AllByRecursion IsSayableCell) table.rows

-- a parameter of such a content
pub record IsSayableParam (param : Param) : Type 0 where
  pub name : IsText param.name
  pub encoding : IfSome param.encoding IsText
  pub body : IsSayableBody param.body

-- an envelope is sayable: its heads are texts, and its parameters are sayable
pub record IsSayable (envelope : Envelope) : Type 0 where
  pub transaction_id : IsText envelope.heads.transaction_id
  pub node_id : IsText envelope.heads.node_id
  pub space_id : IsText envelope.heads.space_id
  pub params : AllByRecursion IsSayableParam envelope.params
