-- What stays and copies of what is added, sorted and without doubles.
use Rattle.std.proofs.Common.{not, rules, ◌∙◌}
use Rattle.std.proofs.lemmas.Fn.{filter_same}
use Rattle.std.proofs.lemmas.List.Filters.{dedup_is}
use Rattle.answer_bodies.specs.Lists.{is_among}
use Rattle.answer_bodies.proofs.FoldedItems.{refolded}
use Rattle.answer_bodies.proofs.fold.fold_items.Goals as goal

pub returns-clause-ok : goal.returns-clause-ok
returns-clause-ok g c =
    let gone = c.args.obsolete.now in
    c.from_vec.ensures
    ∙ refolded g.met.T.Ord.total g.met.T.Item.exact g.met.T.Ord.matches_eq c.args.items.now gone c.args.added.now _ _ _ _ _ _ c.requires.items_order
    (c.in_ok-reserve.ensures.items ∙ c.in_ok-folded.ensures)
    (c.into_vec-kept.ensures ∙ c.replace.ensures.value)
    (filter_same _ (λ item. not (is_among g.T.Ord.cmp gone item)) _ (λ x b f k. search rules) _ _ c.retain.ensures.filtered)
    c.in-Ok.ensures.items c.sort_unstable.ensures.permutation c.sort_unstable.ensures.sorted (dedup_is _ _ _ c.dedup.ensures.filtered)
