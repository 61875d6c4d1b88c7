-- One text more that none before it equals, or one that one before it equals.
use Rattle.std.proofs.Common.{sym, ◌∙◌}
use Rattle.m3_terms.specs.Order.{text_eq}
use Rattle.m3_terms.specs.OrderLaws.{text_eq_equiv}
use mathlib.Core.Bool.{true≢false}
use Rattle.answer_bodies.proofs.Orders.{none_distinct, distinct_more, doubled}
use Rattle.answer_bodies.proofs.lists.are_distinct.Goals as goal

pub loop-i-init : goal.loop-i-init
loop-i-init c = none_distinct text_eq

pub loop-i-preserved : goal.loop-i-preserved
loop-i-preserved c =
    distinct_more text_eq_equiv c.args.texts.now c.loop-i.i c.index-texts-i.result c.loop-i-test.true c.index-texts-i.is c.loop-i.invariant
    (sym c.contains.ensures.value ∙ c.if-contains.false)

pub returns-then-contains : goal.returns-then-contains
returns-then-contains c = (
  λ no. absurd (true≢false (sym no)),
  λ distinct. absurd (doubled text_eq c.args.texts.now c.loop-i.i c.index-texts-i.result c.loop-i-test.true c.index-texts-i.is c.if-contains.ensures.cases distinct),
)
