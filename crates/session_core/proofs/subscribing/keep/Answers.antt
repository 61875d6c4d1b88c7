use Rattle.std.proofs.Common.{◌∙◌, ◌++◌, ap, sym, subst}
use Rattle.std.specs.List.{IsDistinct}
use Rattle.m3_terms.specs.Order.{term_eq}
use Rattle.session_core.specs.Numbers.{Numbers}
use Rattle.session_core.proofs.SubscriptionsAreAnswered.{terms_kept}
use Rattle.session_core.proofs.subscribing.keep.Goals as goal

pub invariant_of-facts : goal.invariant_of-facts
invariant_of-facts c = (
  c.commit.ensures.limit ∙ c.reserve_for.ensures.limit ∙ c.facts.invariant.0,
  terms_kept (record { terms = c.facts.inside.terms.terms; triples = c.facts.inside.index.triples }) c.commit.new.self.terms c.args.draft c.facts.invariant.1
      (subst (λ (numbers : Numbers). IsDistinct term_eq (numbers.terms ++ c.args.draft)) (sym c.facts.view_is) c.requires.once)
      (c.commit.ensures.terms ∙ ap (λ terms. terms ++ c.args.draft) c.reserve_for.ensures.terms),
)
