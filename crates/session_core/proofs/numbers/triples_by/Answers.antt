use Rattle.std.proofs.Common.{◌++◌, ◌∙◌, ap, arith}
use Rattle.std.specs.Option.{option_to_list}
use Rattle.session_core.specs.Numbers.{ids_of}
use Rattle.answer_bodies.proofs.MappedItems.{mapped_more}
use Rattle.session_core.proofs.PatternsNamed.{mapped_all}
use Rattle.session_core.proofs.numbers.triples_by.Goals as goal

pub loop-pattern-preserved : goal.loop-pattern-preserved
loop-pattern-preserved g c =
    mapped_more (ids_of (g.T.Listed.listed c.args.table.now)) _ _ c.pattern-item.result _ _ c.loop-pattern-test.true c.loop-pattern.invariant
    (c.in_ok-push_some.ensures ∙ ap (λ found. c.loop-pattern.triples ++ option_to_list found)
    (c.triple_by.ensures ∙ ap (ids_of (g.T.Listed.listed c.args.table.now)) c.pattern-item.is))

pub returns : goal.returns
returns g c = mapped_all (ids_of (g.T.Listed.listed c.args.table.now)) _ c.loop-pattern.pattern-index _ (omega (arith, c.loop-pattern-test.false)) c.loop-pattern.invariant
