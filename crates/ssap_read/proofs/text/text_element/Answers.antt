use Rattle.ssap_grammar.specs.Text.{ReadsText}
use Rattle.ssap_read.specs.Tags.{ReadsFilling}
use Rattle.ssap_read.specs.Told.{Whatever, Told}
use Rattle.std.proofs.lemmas.Result.{IfOk-weaker}
use Rattle.ssap_read.proofs.Tagged.{plain_none, plain_told, Plain}
use Rattle.ssap_read.proofs.text.text_element.Goals as goal

pub returns-in_default : goal.returns-in_default
returns-in_default c = plain_none c.args.name.now ReadsText c.args.bytes.now c.in_default.ensures

pub returns : goal.returns
returns c =
    IfOk-weaker c.text_in.result (Told (ReadsFilling c.args.name.now ReadsText c.in-Some.closed) Whatever c.in-Some.rest.now) (Told (Plain c.args.name.now ReadsText) Whatever c.args.bytes.now)
    (λ r f. plain_told c.args.name.now ReadsText c.args.bytes.now c.in-Some.closed c.in-Some.rest.now r c.in-Some.ensures f) c.text_in.ensures
