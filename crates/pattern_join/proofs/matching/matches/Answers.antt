-- The triples that were read, put in order.
use Rattle.std.proofs.Common.{◌≡◌, length, subst, arith}
use Rattle.std.proofs.lemmas.List.Sorted.{IsPermutation-trans, length_permutation}
use Rattle.triple_index.specs.IdOrderLaws.{id_triple_cmp_total}
use Rattle.pattern_join.specs.Reading.{IsRead}
use Rattle.pattern_join.proofs.OrderOnce.{order_once}
use Rattle.pattern_join.proofs.matching.matches.Goals as goal

pub returns-clause-matches : goal.returns-clause-matches
returns-clause-matches g c =
    let read : IsRead c.args.templates.now c.args.view.now c.in_ok-found.found =
    subst (λ ps. IsRead ps c.args.view.now c.in_ok-found.found) c.as_slice.ensures c.in_ok-found.ensures.read in
    order_once id_triple_cmp_total _ c.in_order.result read.ordered (IsPermutation-trans _ _ _ read.same c.in_order.ensures.same) c.in_order.ensures.sorted

pub returns-clause-narrow : goal.returns-clause-narrow
returns-clause-narrow g c =
    let long : length c.in_order.result ≡ length c.in_ok-found.found = length_permutation _ _ c.in_order.ensures.same in
    let read = c.in_ok-found.ensures.read in
    omega (arith, read.narrow)
