-- Envelopes whose texts are texts.
use Rattle.std.specs.Prelude.{IfSome}
use Rattle.std.specs.List.{AllByRecursion}
use Rattle.m3_terms.specs.Text.{IsText}
use Rattle.ssap_items.specs.declared.body.RawTriple.{RawTriple}
use Rattle.ssap_items.specs.declared.body.RawCell.{RawCell}
use Rattle.ssap_items.specs.declared.body.Body.{Body}
use Rattle.ssap_items.specs.declared.body.Body.TheVariants.{Text, Triples, Table}
use Rattle.ssap_items.specs.declared.envelope.Param.{Param}
use Rattle.ssap_items.specs.declared.envelope.Envelope.{Envelope}

-- a triple of texts
pub record IsTripleOfTexts (triple : RawTriple) : Type 0 where
  pub subject : IsText triple.subject.text
  pub predicate : IsText triple.predicate
  pub object : IsText triple.object.text

-- a cell of texts
pub record IsCellOfTexts (cell : RawCell) : Type 0 where
  pub name : IsText cell.name
  pub value : IsText cell.value.text

-- a content of texts
abbrev pub IsBodyOfTexts : Body → Type 0
IsBodyOfTexts (Text value) = IsText value
IsBodyOfTexts (Triples values) = AllByRecursion IsTripleOfTexts values
IsBodyOfTexts (Table table) = AllByRecursion IsText table.columns × AllByRecursion (AllByRecursion IsCellOfTexts) table.rows

-- a parameter of texts
pub record IsParamOfTexts (param : Param) : Type 0 where
  pub name : IsText param.name
  pub encoding : IfSome param.encoding IsText
  pub body : IsBodyOfTexts param.body

-- an envelope of texts: its heads and its parameters
pub record AreTexts (envelope : Envelope) : Type 0 where
  pub transaction_id : IsText envelope.heads.transaction_id
  pub node_id : IsText envelope.heads.node_id
  pub space_id : IsText envelope.heads.space_id
  pub params : AllByRecursion IsParamOfTexts envelope.params
