use Rattle.ssap_grammar.specs.Attribute.{ReadsValueText}
use Rattle.ssap_read.proofs.Attributed.{attribute_told, attribute_none}
use Rattle.ssap_read.proofs.Texts.{attvalue_told}
use Rattle.ssap_read.proofs.attribute.value_attribute.Goals as goal

pub returns-in_default : goal.returns-in_default
returns-in_default c = λ l. attribute_none c.args.name.now ReadsValueText c.args.bytes.now (c.in_default.ensures l)

pub returns : goal.returns
returns c = λ l.
    attribute_told c.args.name.now ReadsValueText c.args.bytes.now c.in-Some.rest.now c.in_ok-read_attvalue.field-0 (c.in-Some.ensures l)
    (attvalue_told c.in-Some.rest.now c.in_ok-read_attvalue.field-0 c.in_ok-read_attvalue.ensures.found c.in_ok-read_attvalue.ensures.none)
