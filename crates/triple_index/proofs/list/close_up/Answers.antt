-- Triples taken out of a list in place.
use Rattle.std.proofs.Common.{◌≡◌, ◌<◌, ◌≤◌, length, true, false, refl, sym, subst, rules, arith}
use Rattle.std.proofs.lemmas.List.Sorted.{IsPartitionPoint-from_clause}
use Rattle.std.specs.List.Sorted.{IsPartitionPoint}
use Rattle.std.specs.Ordering.{is_lt}
use Rattle.triple_index.specs.Changes.{AreOrdered}
use Rattle.triple_index.specs.IdOrder.{id_triple_cmp}
use Rattle.triple_index.specs.IdOrderLaws.{id_triple_cmp_total}
use Rattle.triple_index.specs.declared.triple.IdTriple.{IdTriple}
use Rattle.triple_index.proofs.Searches.{rising, below_first}
use Rattle.triple_index.proofs.Closing.{closing_none, closing_start, closing_gone, closing_stays}
use Rattle.triple_index.proofs.list.close_up.Goals as goal
use Rattle.triple_index.proofs.list.close_up.Goals.{in-Some-rest_behind, in-None}

pub returns-in_default-clause-items : goal.returns-in_default-clause-items
returns-in_default-clause-items c = closing_none _ _ c.in_default.ensures.cases

pub loop-at-init : goal.loop-at-init
loop-at-init c =
    let first = c.in-Some.first.now in
    let start = c.partition_point-start.result in
    let seen : c.deref.result.now ≡ c.args.triples.now.items = c.deref.ensures.value in
    let ordered : AreOrdered c.deref.result.now = subst AreOrdered (sym seen) c.requires.ordered in
    let point = IsPartitionPoint-from_clause (λ (t : IdTriple). is_lt (id_triple_cmp t first)) c.deref.result.now start
    c.partition_point-start.ensures.partitioned
    (below_first (λ (t : IdTriple). id_triple_cmp t first) c.deref.result.now (rising id_triple_cmp_total first c.deref.result.now ordered))
    (λ a r f k. search rules) in
    let there : IsPartitionPoint (λ t. is_lt (id_triple_cmp t first) ≡ true) (λ t. is_lt (id_triple_cmp t first) ≡ false) c.args.triples.now.items start =
    subst (λ l. IsPartitionPoint (λ (t : IdTriple). is_lt (id_triple_cmp t first) ≡ true) (λ t. is_lt (id_triple_cmp t first) ≡ false) l start) seen point in
    let within : start ≤ length c.args.triples.now.items = subst (λ l. start ≤ length l) seen c.partition_point-start.ensures.bound in
    record {
      closing = closing_start _ _ _ first start c.requires.ordered c.requires.removed_ordered c.requires.there c.in-Some.ensures.cases.0 within there;
      capacity = refl;
    }

pub loop-at-preserved : goal.loop-at-preserved
loop-at-preserved c =
    let now = c.loop-at.invariant.closing in
    let within : c.loop-at.at < length c.loop-at.triples.items = omega (arith, c.loop-at.triples.ok.0, c.args.triples.now.ok.0, now.keeps.long) in
    elim c.match-rest_behind.branch [
      | in-Some-rest_behind w ↦ rw (w.triples-is, w.kept-is, w.left-is) (record {
        closing = closing_gone _ _ _ _ _ _ _ _ now within c.index.ensures w.in-Some-rest_behind.ensures;
        capacity = c.loop-at.invariant.capacity;
      })
      | in-None w ↦ rw (w.triples-is, w.kept-is, w.left-is) (record {
        closing = closing_stays _ _ _ _ _ _ _ now within c.index.ensures w.in-None.ensures;
        capacity = c.loop-at.invariant.capacity;
      })
    ]
