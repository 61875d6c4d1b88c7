use Rattle.ssap_grammar.specs.Front.{Given}
use Rattle.ssap_grammar.specs.Text.{ReadsText}
use Rattle.ssap_grammar.specs.Triples.{ReadsType}
use Rattle.ssap_read.specs.Attributes.{all_kinds}
use Rattle.ssap_read.proofs.Tagged.{element_start_none, element_filling_none, element_only}
use Rattle.ssap_read.proofs.kind.typed_element.Goals as goal

pub returns-in_default : goal.returns-in_default
returns-in_default c = element_start_none c.args.name.now (Given (ReadsType all_kinds)) ReadsText c.args.bytes.now c.in_default.ensures

pub returns-in_default-2 : goal.returns-in_default-2
returns-in_default-2 c =
    element_filling_none c.args.name.now (Given (ReadsType all_kinds)) ReadsText c.in-Some.closed c.args.bytes.now c.in-Some.rest.now c.in-Some.kind c.in-Some.ensures (rw c.in_default-2.is at c.in_ok-text.ensures)

pub returns : goal.returns
returns c =
    element_only c.args.name.now (Given (ReadsType all_kinds)) ReadsText c.in-Some.closed c.args.bytes.now c.in-Some.rest.now c.in-Some-2.rest.now c.in-Some.kind c.in-Some-2.text c.in-Some.ensures (rw c.in-Some-2.is at c.in_ok-text.ensures)
