use Rattle.std.proofs.Common.{◌≡◌, ◌≤◌, length, take, drop, filter, true, false, sym, ap, subst, ◌∙◌, rules}
use Rattle.std.proofs.lemmas.List.Sorted.{IsPartitionPoint-from_clause, IsNonDecreasingBy-drop}
use Rattle.std.specs.Ordering.{ordering_index, is_lt, is_le}
use Rattle.std.specs.List.Sorted.{IsNonDecreasingBy, IsPartitionPoint}
use Rattle.triple_index.specs.Fits.{fits}
use Rattle.triple_index.specs.Sides.{side}
use Rattle.triple_index.specs.declared.triple.IdTriple.{IdTriple}
use Rattle.triple_index.proofs.Searches.{below_first, not_above_first}
use Rattle.triple_index.proofs.Ranges.{sides_rise, range_fits}
use Rattle.triple_index.proofs.list.range.Goals as goal

pub returns : goal.returns
returns c =
    let mask = c.args.mask.now in
    let xs = c.args.triples.now in
    let m = c.partition_point-start.result in
    let n = c.partition_point-end.result in
    let up = sides_rise mask xs c.requires in
    let back : c.split_at.result.1.now ≡ drop m xs = c.split_at.ensures.back in
    let up_back : IsNonDecreasingBy (λ t. ordering_index (side mask t)) c.split_at.result.1.now =
    subst (IsNonDecreasingBy (λ (t : IdTriple). ordering_index (side mask t))) (sym back) (IsNonDecreasingBy-drop (λ t. ordering_index (side mask t)) m xs up) in
    let low = IsPartitionPoint-from_clause (λ (t : IdTriple). is_lt (side mask t)) xs m c.partition_point-start.ensures.partitioned (below_first (side mask) xs up) (λ a r f k. search rules) in
    let high = IsPartitionPoint-from_clause (λ (t : IdTriple). is_le (side mask t)) c.split_at.result.1.now n c.partition_point-end.ensures.partitioned (not_above_first (side mask) c.split_at.result.1.now up_back) (λ a r f k. search rules) in
    let high_back : IsPartitionPoint (λ t. is_le (side mask t) ≡ true) (λ t. is_le (side mask t) ≡ false) (drop m xs) n =
    subst (λ l. IsPartitionPoint (λ (t : IdTriple). is_le (side mask t) ≡ true) (λ t. is_le (side mask t) ≡ false) l n) back high in
    let short : n ≤ length (drop m xs) = subst (λ l. n ≤ length l) back c.partition_point-end.ensures.bound in
    ap (filter (fits mask)) (c.split_at-2.ensures.front ∙ ap (take n) back)
    ∙ range_fits mask xs m n c.partition_point-start.ensures.bound short low high_back
