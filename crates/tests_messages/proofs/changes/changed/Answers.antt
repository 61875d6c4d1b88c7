-- An answer of one triple is in order, and so a difference of two of them fits.
use Rattle.std.proofs.Common.{◌≡◌, List, [], ◌∷◌, sym, subst}
use Rattle.std.specs.List.Sorted.{IsStrictlySortedBy}
use Rattle.m3_terms.specs.Order.{triple_cmp}
use Rattle.m3_terms.specs.declared.triple.Triple.{Triple}
use Rattle.answer_bodies.specs.Differences.{MayFollow, Fits}
use Rattle.answer_bodies.specs.declared.answer.Answer.TheVariants.{Triples}
use Rattle.tests_messages.proofs.changes.changed.Goals as goal

alone_sorted : (triple : Triple) → IsStrictlySortedBy triple_cmp (triple ∷ [])
unfolding IsStrictlySortedBy
alone_sorted triple = (tt, tt)

one_sorted : (triple : Triple) (triples : List Triple) → triples ≡ triple ∷ [] → IsStrictlySortedBy triple_cmp triples
one_sorted triple triples e = subst (IsStrictlySortedBy triple_cmp) (sym e) (alone_sorted triple)

may_follow : (first second : Triple) (one other : List Triple) → one ≡ first ∷ [] → other ≡ second ∷ [] → MayFollow (Triples one) (Triples other)
may_follow first second one other e f = record { form = tt; earlier = one_sorted first one e; later = one_sorted second other f }

pub difference-requires : goal.difference-requires
difference-requires c = may_follow c.args.first c.args.second _ _ c.in_ok-only.ensures c.in_ok-only-2.ensures

pub fold-requires-clause-order : goal.fold-requires-clause-order
fold-requires-clause-order c = one_sorted c.args.first _ c.in_ok-only.ensures

pub fold-requires-clause-fits : goal.fold-requires-clause-fits
fold-requires-clause-fits c =
    subst (Fits (Triples c.in_ok-only.field-0)) (sym c.in_ok-found.ensures)
    (c.differences_lead_on.ensures.fit (Triples c.in_ok-only.field-0) (Triples c.in_ok-only-2.field-0)
    (may_follow c.args.first c.args.second _ _ c.in_ok-only.ensures c.in_ok-only-2.ensures))
