-- The net change of an update.
use Rattle.std.proofs.Common.{List, sym, subst, rules, ◌∙◌}
use Rattle.triple_index.specs.Parts.{HasFitting, HasSame, IsRest}
use Rattle.triple_index.specs.declared.triple.IdTriple.{IdTriple}
use Rattle.triple_index.specs.declared.triple.IdPattern.{IdPattern}
use Rattle.triple_index.proofs.Nets.{IsMade, made_net, made_after}
use Rattle.triple_index.proofs.change.Change.net.Goals as goal

pub returns : goal.returns
returns g c =
    let graph = c.args.index.now.triples in
    let read = c.in_ok-read.read.items in
    let sorted = c.in_order.result.items in
    let wanted = c.in_order-wanted.result.items in
    let made : IsMade graph c.args.insert.now c.from_vec.result c.from_vec-2.result c.args.remove.now = record {
      read = read;
      sorted = sorted;
      wanted = wanted;
      ordered = c.as_slice-4.ensures.ordered;
      fitting = subst (λ (ps : List IdPattern). HasFitting graph ps read) c.as_slice-2.ensures c.in_ok-read.ensures.fitting;
      same = c.in_order.ensures.same;
      wants = subst (λ (l : List IdTriple). HasSame l wanted) (c.in_ok-from_slice.ensures.items ∙ c.as_slice.ensures) c.in_order-wanted.ensures.same;
      goes = subst (λ (l : List IdTriple). IsRest sorted wanted l) (sym c.from_vec.ensures)
          (subst (λ (l : List IdTriple). IsRest sorted l c.rest_of-removed.result.items) c.as_slice-3.ensures.value c.rest_of-removed.ensures.rest);
      comes = subst (λ (l : List IdTriple). IsRest wanted graph l) (sym c.from_vec-2.ensures)
          (subst (λ (l : List IdTriple). IsRest wanted l c.rest_of-inserted.result.items) c.as_slice-4.ensures.triples c.rest_of-inserted.ensures.rest);
    } in
    record {
      net = made_net graph c.args.insert.now c.from_vec.result c.from_vec-2.result c.args.remove.now made;
      after = made_after graph c.args.insert.now c.from_vec.result c.from_vec-2.result c.args.remove.now made;
      reads = search rules;
    }
