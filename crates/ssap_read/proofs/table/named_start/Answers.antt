use Rattle.ssap_grammar.specs.Table.{ReadsName}
use Rattle.ssap_read.specs.Tags.{EndsTag}
use Rattle.ssap_read.proofs.Tellings.{only_anywhere}
use Rattle.ssap_read.proofs.Tagged.{start_name_none, start_attribute_none, start_end_none, start_only}
use Rattle.ssap_grammar.proofs.Tables.{name_lettered}
use Rattle.ssap_read.proofs.table.named_start.Goals as goal

pub returns-in_default : goal.returns-in_default
returns-in_default c =
    start_name_none c.args.tag.now ReadsName c.args.bytes.now c.in_default.ensures

pub returns-in_default-2 : goal.returns-in_default-2
returns-in_default-2 c =
    start_attribute_none c.args.tag.now ReadsName c.args.bytes.now _ c.in-Some.ensures.reads (λ w left x _. (rw c.in_default-2.is at (c.in_ok-name.ensures name_lettered)) w left x tt)

pub returns-in_default-end_of_tag : goal.returns-in_default-end_of_tag
returns-in_default-end_of_tag c =
    start_end_none c.args.tag.now ReadsName c.args.bytes.now _ _ _ c.in-Some.ensures.reads (only_anywhere ReadsName EndsTag _ _ _ (rw c.in-Some-2.is at (c.in_ok-name.ensures name_lettered))) c.in_default-end_of_tag.ensures

pub returns : goal.returns
returns c =
    start_only c.args.tag.now ReadsName c.args.bytes.now _ _ _ _ _ c.in-Some.ensures.reads (only_anywhere ReadsName EndsTag _ _ _ (rw c.in-Some-2.is at (c.in_ok-name.ensures name_lettered))) c.in-Some-end_of_tag.ensures
