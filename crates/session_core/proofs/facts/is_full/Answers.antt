use Rattle.std.proofs.Common.{◌∙◌, ap, length, subst}
use Rattle.triple_index.specs.Changes.{AreOrdered}
use Rattle.session_core.proofs.NumbersFollow.{full_is}
use Rattle.session_core.proofs.facts.is_full.Goals as goal

pub returns : goal.returns
returns c =
    full_is c.args.index.now.triples c.args.change.now _ _ _ _ _ c.len.ensures.ordered
    (subst AreOrdered c.removed.ensures.triples c.removed.ensures.ordered) (subst AreOrdered c.inserted.ensures.triples c.inserted.ensures.ordered)
    c.requires c.len.ensures.length (c.len-2.ensures ∙ ap length c.removed.ensures.triples) (c.len-3.ensures ∙ ap length c.inserted.ensures.triples)
    c.saturating_sub-kept.ensures c.saturating_add.ensures
