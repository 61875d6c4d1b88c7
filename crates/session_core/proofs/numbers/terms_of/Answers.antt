use Rattle.std.proofs.Common.{◌++◌, ◌∙◌, ap, arith}
use Rattle.session_core.specs.Graph.{terms_of_pattern}
use Rattle.session_core.proofs.PatternsNamed.{named_more, named_all}
use Rattle.session_core.proofs.numbers.terms_of.Goals as goal

pub loop-pattern-preserved : goal.loop-pattern-preserved
loop-pattern-preserved c =
    named_more _ _ c.pattern-item.result _ _ c.loop-pattern-test.true c.loop-pattern.invariant
    (c.in_ok-push_pattern.ensures ∙ ap (λ pattern. c.loop-pattern.terms ++ terms_of_pattern pattern) c.pattern-item.is)

pub returns : goal.returns
returns c = named_all _ c.loop-pattern.pattern-index _ (omega (arith, c.loop-pattern-test.false)) c.loop-pattern.invariant
