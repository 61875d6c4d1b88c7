use Rattle.std.proofs.Common.{None, Some}
use Rattle.std.proofs.Common.{[], ◌∷◌}
use Rattle.std.proofs.lemmas.Bool.Decides.{Decides-eqb}
use Rattle.std.proofs.lemmas.Slice.Eq.{strip_prefix_is}
use Rattle.ssap_read.proofs.Tellings.{strip_word, word_passed}
use Rattle.ssap_read.proofs.Attributed.{quoted_passed}
use Rattle.ssap_read.proofs.attribute.quoted.Goals as goal

pub returns-in_err-strip_prefix : goal.returns-in_err-strip_prefix
returns-in_err-strip_prefix c =
    let m = c.in_ok-mark.inner.now in
    rw c.from_residual-in_err-strip_prefix.ensures (quoted_passed c.args.word.now c.args.bytes.now m c.in_ok-mark.mark None c.in_ok-mark.ensures.found.0 c.in_ok-mark.ensures.found.1
    (λ _ left x _. strip_prefix_is Decides-eqb m c.args.word.now None c.in_err-strip_prefix.ensures.cases x.middle x.first))

pub returns : goal.returns
returns c =
    let m = c.in_ok-mark.inner.now in
    let n = c.in_ok-strip_prefix.field-0.now in
    quoted_passed c.args.word.now c.args.bytes.now m c.in_ok-mark.mark c.strip_prefix-2.result c.in_ok-mark.ensures.found.0 c.in_ok-mark.ensures.found.1
    (word_passed c.args.word.now _ m n c.strip_prefix-2.result
    (strip_prefix_is Decides-eqb m c.args.word.now (Some c.in_ok-strip_prefix.field-0) c.in_ok-strip_prefix.ensures.cases)
    (strip_word (c.in_ok-mark.mark ∷ []) n c.strip_prefix-2.result (strip_prefix_is Decides-eqb n (c.in_ok-mark.mark ∷ []) c.strip_prefix-2.result c.strip_prefix-2.ensures.cases)))
