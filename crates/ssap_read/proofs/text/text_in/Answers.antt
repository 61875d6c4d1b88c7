use Rattle.std.proofs.Common.{sym, subst, ◌∙◌}
use Rattle.ssap_grammar.specs.Text.{ReadsText}
use Rattle.ssap_read.specs.Tags.{ReadsFilling}
use Rattle.ssap_read.specs.Told.{Whatever, Told, IsOnly}
use Rattle.ssap_read.proofs.Tagged.{closed_only, filled_told}
use Rattle.ssap_read.proofs.Texts.{empty_text, empty_texts, text_told}
use Rattle.ssap_read.proofs.text.text_in.Goals as goal

pub returns-then-closed : goal.returns-then-closed
returns-then-closed c =
    subst (λ closed. IsOnly (ReadsFilling c.args.name.now ReadsText closed) Whatever c.args.bytes.now c.in_ok-no_text.field-0 c.args.bytes.now) (sym c.if-closed.true)
    (closed_only c.args.name.now ReadsText c.args.bytes.now c.in_ok-no_text.field-0 (empty_text c.in_ok-no_text.field-0 c.in_ok-no_text.ensures)
    (λ w x. empty_texts w x ∙ sym c.in_ok-no_text.ensures))

pub returns : goal.returns
returns c =
    subst (λ closed. Told (ReadsFilling c.args.name.now ReadsText closed) Whatever c.args.bytes.now c.finished.result) (sym c.if-closed.false)
    (filled_told c.args.name.now ReadsText c.args.bytes.now c.in_ok-read_text.field-0 c.finished.result
    (text_told c.args.bytes.now c.in_ok-read_text.field-0 c.in_ok-read_text.ensures.found c.in_ok-read_text.ensures.none) c.finished.ensures)
