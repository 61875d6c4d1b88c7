-- A change made in an index.
use Rattle.std.proofs.Common.{Contains, sym, ap, subst, ◌∙◌}
use Rattle.std.proofs.lemmas.List.Kept.{IsStrictlySortedBy-filter}
use Rattle.triple_index.specs.Changes.{AreOrdered, Graph}
use Rattle.triple_index.specs.GraphLaws.{without_has, with_all_ordered}
use Rattle.triple_index.specs.IdOrder.{id_triple_cmp, id_triple_eq}
use Rattle.triple_index.specs.IdOrderLaws.{id_triple_cmp_total, id_triple_one}
use Rattle.triple_index.proofs.Closing.{stays}
use Rattle.triple_index.proofs.index.Index.apply.Goals as goal

pub close_up-requires-clause-there : goal.close_up-requires-clause-there
close_up-requires-clause-there c =
    let seen = c.as_slice.ensures ∙ c.removed.ensures.triples in
    let here = ap (λ (v : Graph). v.triples) c.self.view_is in
    λ t gone. subst (λ l. Contains l t) (sym here) (c.requires.net.removed_there t (subst (λ l. Contains l t) seen gone))

pub merge-requires-clause-ordered : goal.merge-requires-clause-ordered
merge-requires-clause-ordered c =
    subst AreOrdered (sym c.close_up.ensures.items)
    (IsStrictlySortedBy-filter id_triple_cmp (stays c.as_slice.result.now) c.self.inside.triples.items c.self.invariant)

pub merge-requires-clause-fresh : goal.merge-requires-clause-fresh
merge-requires-clause-fresh c =
    let seen = c.as_slice-2.ensures ∙ c.inserted.ensures.triples in
    let here = ap (λ (v : Graph). v.triples) c.self.view_is in
    λ t new old.
    let left = (without_has id_triple_eq c.self.inside.triples.items c.as_slice.result.now t).0 (subst (λ l. Contains l t) c.close_up.ensures.items old) in
    c.requires.net.inserted_new t (subst (λ l. Contains l t) seen new) (subst (λ l. Contains l t) here left.0)

pub invariant_of-self : goal.invariant_of-self
invariant_of-self c =
    let ordered = subst AreOrdered (sym c.close_up.ensures.items)
    (IsStrictlySortedBy-filter id_triple_cmp (stays c.as_slice.result.now) c.self.inside.triples.items c.self.invariant) in
    subst AreOrdered (sym c.merge.ensures.items) (with_all_ordered id_triple_cmp_total id_triple_one c.close_up.new.triples.items c.as_slice-2.result.now ordered)
