use Rattle.std.proofs.Common.{◌∙◌, List, slice_get, sym, ap, subst, arith}
use Rattle.m3_terms.specs.TermTable.{NamesOnce}
use Rattle.m3_terms.specs.declared.term.Term.{Term}
use Rattle.m3_intern.proofs.Positions.{named_once, get_right}
use Rattle.m3_intern.proofs.both.BothTermTable.term_of.Goals as goal

pub returns-then-at-len-clause-once : goal.returns-then-at-len-clause-once
returns-then-at-len-clause-once c = subst (λ (terms : List Term). NamesOnce (slice_get terms)) c.self.view_is (named_once _ c.self.invariant.once)

pub returns-else-at-len-clause-term : goal.returns-else-at-len-clause-term
returns-else-at-len-clause-term c =
    c.get_index-else-at-len.ensures.key
    ∙ sym (get_right c.self.inside.kept.now.keys c.self.inside.fresh.now.keys c.args.id.0 _ (omega (arith, c.if-at-len.false, c.len.ensures.len, c.len-else-at-len.ensures.len)))
    ∙ ap (λ (terms : List Term). slice_get terms c.args.id.0) c.self.view_is

pub returns-else-at-len-clause-once : goal.returns-else-at-len-clause-once
returns-else-at-len-clause-once c = subst (λ (terms : List Term). NamesOnce (slice_get terms)) c.self.view_is (named_once _ c.self.invariant.once)
