use Rattle.std.proofs.Common.{None, Some, codes}
use Rattle.std.proofs.lemmas.Bool.Decides.{Decides-eqb}
use Rattle.std.proofs.lemmas.Slice.Eq.{strip_prefix_is}
use Rattle.ssap_read.proofs.Tellings.{strip_word, word_passed}
use Rattle.ssap_read.proofs.Tagged.{last_end_passed}
use Rattle.ssap_read.proofs.element.finish.Goals as goal

pub returns-in_err-strip_prefix : goal.returns-in_err-strip_prefix
returns-in_err-strip_prefix c =
    rw c.from_residual.ensures (λ _ left x _. strip_prefix_is Decides-eqb c.args.bytes.now (codes "</") None c.in_err-strip_prefix.ensures.cases x.middle x.first)

pub returns-in_err-rest : goal.returns-in_err-rest
returns-in_err-rest c =
    let m = c.in_ok-strip_prefix.field-0.now in
    rw c.from_residual-in_err-rest.ensures (word_passed (codes "</") _ c.args.bytes.now m None
    (strip_prefix_is Decides-eqb c.args.bytes.now (codes "</") (Some c.in_ok-strip_prefix.field-0) c.in_ok-strip_prefix.ensures.cases)
    (λ _ left x _. strip_prefix_is Decides-eqb m c.args.name.now None c.in_err-rest.ensures.cases x.middle x.first))

pub returns : goal.returns
returns c =
    let m = c.in_ok-strip_prefix.field-0.now in
    let n = c.in_ok-rest.rest.now in
    let s = c.skip_spaces.result.now in
    word_passed (codes "</") _ c.args.bytes.now m c.strip_prefix-3.result
    (strip_prefix_is Decides-eqb c.args.bytes.now (codes "</") (Some c.in_ok-strip_prefix.field-0) c.in_ok-strip_prefix.ensures.cases)
    (word_passed c.args.name.now _ m n c.strip_prefix-3.result
    (strip_prefix_is Decides-eqb m c.args.name.now (Some c.in_ok-rest.rest) c.in_ok-rest.ensures.cases)
    (last_end_passed n s c.strip_prefix-3.result c.skip_spaces.ensures.spaces c.skip_spaces.ensures.stops
    (strip_word (codes ">") s c.strip_prefix-3.result (strip_prefix_is Decides-eqb s (codes ">") c.strip_prefix-3.result c.strip_prefix-3.ensures.cases))))
