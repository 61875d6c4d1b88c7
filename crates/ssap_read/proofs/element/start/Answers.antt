use Rattle.ssap_grammar.specs.Front.{Nothing}
use Rattle.std.specs.Prelude.{⊤}
use Rattle.ssap_read.proofs.Tagged.{start_name_none, plain_start_told}
use Rattle.ssap_read.proofs.element.start.Goals as goal

pub returns-in_err-open : goal.returns-in_err-open
returns-in_err-open c =
    rw c.from_residual.ensures (λ closed left x _. start_name_none {A = ⊤} c.args.name.now (λ _. Nothing) c.args.bytes.now c.in_err-open.ensures (tt, closed) left x tt)

pub returns : goal.returns
returns c = plain_start_told c.args.name.now c.args.bytes.now c.in_ok-open.field-0.now c.end_of_tag.result c.in_ok-open.ensures.reads c.end_of_tag.ensures
