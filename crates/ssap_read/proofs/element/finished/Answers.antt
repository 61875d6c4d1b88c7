use Rattle.ssap_read.proofs.element.finished.Goals as goal

pub returns-in_err-finish : goal.returns-in_err-finish
returns-in_err-finish g c =
    rw (c.from_residual-in_err-finish.ensures, c.in_ok-value.was) (λ left x. c.in_err-finish.ensures tt left x tt)
