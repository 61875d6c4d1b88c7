use Rattle.std.proofs.Common.{None, Some, codes}
use Rattle.std.proofs.lemmas.Bool.Decides.{Decides-eqb}
use Rattle.std.proofs.lemmas.Slice.Eq.{strip_prefix_is}
use Rattle.ssap_read.proofs.Tellings.{strip_word, word_passed}
use Rattle.ssap_read.proofs.element.open.Goals as goal

pub returns-in_err-strip_prefix : goal.returns-in_err-strip_prefix
returns-in_err-strip_prefix c =
    rw c.from_residual.ensures (λ _ left x _. strip_prefix_is Decides-eqb c.args.bytes.now (codes "<") None c.in_err-strip_prefix.ensures.cases x.middle x.first)

pub returns : goal.returns
returns c =
    word_passed (codes "<") _ c.args.bytes.now c.in_ok-strip_prefix.field-0.now c.strip_prefix-2.result
    (strip_prefix_is Decides-eqb c.args.bytes.now (codes "<") (Some c.in_ok-strip_prefix.field-0) c.in_ok-strip_prefix.ensures.cases)
    (strip_word c.args.name.now c.in_ok-strip_prefix.field-0.now c.strip_prefix-2.result
    (strip_prefix_is Decides-eqb c.in_ok-strip_prefix.field-0.now c.args.name.now c.strip_prefix-2.result c.strip_prefix-2.ensures.cases))
