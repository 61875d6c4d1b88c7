-- Triples merged behind which there is room.
use Rattle.std.proofs.Common.{◌≡◌, ◌++◌, Contains, subst, rules}
use Rattle.triple_index.proofs.Merging.{before_end}
use Rattle.triple_index.proofs.list.merge.Goals as goal

pub merge_from_end-requires-clause-fresh : goal.merge_from_end-requires-clause-fresh
merge_from_end-requires-clause-fresh c =
    let now_is : c.as_mut_slice.result.now ≡ c.args.triples.now.items ++ c.args.inserted.now = search rules in
    λ t new old. c.requires.fresh t new (subst (λ l. Contains l t) (before_end _ _ _ now_is) old)
