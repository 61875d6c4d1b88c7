use Rattle.std.proofs.Common.{◌++◌, ◌∙◌, ap, arith}
use Rattle.std.specs.Option.{option_to_list}
use Rattle.session_core.specs.Numbers.{pattern_in}
use Rattle.answer_bodies.proofs.MappedItems.{mapped_more}
use Rattle.session_core.proofs.PatternsNamed.{mapped_all}
use Rattle.session_core.proofs.numbers.patterns_by.Goals as goal

pub loop-pattern-preserved : goal.loop-pattern-preserved
loop-pattern-preserved g c =
    mapped_more (pattern_in (g.T.Listed.listed c.args.table.now)) _ _ c.pattern-item.result _ _ c.loop-pattern-test.true c.loop-pattern.invariant
    (c.in_ok-push_some.ensures ∙ ap (λ found. c.loop-pattern.ids ++ option_to_list found)
    (c.pattern_by.ensures ∙ ap (pattern_in (g.T.Listed.listed c.args.table.now)) c.pattern-item.is))

pub returns : goal.returns
returns g c = mapped_all (pattern_in (g.T.Listed.listed c.args.table.now)) _ c.loop-pattern.pattern-index _ (omega (arith, c.loop-pattern-test.false)) c.loop-pattern.invariant
