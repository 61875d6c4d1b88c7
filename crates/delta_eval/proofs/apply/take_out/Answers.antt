use Rattle.std.proofs.Common.{◌∙◌, List, Contains, sym, subst, arith}
use Rattle.std.proofs.lemmas.List.{take_all}
use Rattle.std.specs.List.{IsDistinct}
use Rattle.sparql_algebra.specs.declared.mapping.Binding.{Binding}
use Rattle.sparql_algebra.specs.RowSets.{AreExactly}
use Rattle.sparql_algebra.specs.Solutions.{solution_eq}
use Rattle.sparql_algebra.proofs.Gathered.{item_in}
use Rattle.delta_eval.specs.Changed.{IsOfOnly}
use Rattle.delta_eval.proofs.MovedRows.{still_there, one_out}
use Rattle.delta_eval.proofs.apply.take_out.Goals as goal

pub remove-requires : goal.remove-requires
remove-requires c =
    let items = c.as_slice-row-items.result.now in
    let row = c.row-item.result in
    let once = subst (IsDistinct solution_eq) (sym c.as_slice-row-items.ensures.rows) c.as_slice-row-items.ensures.distinct in
    let there = subst (λ (l : List (List Binding)). Contains l row) c.as_slice-row-items.ensures.rows (item_in items c.loop-row.row-index row c.loop-row-test.true c.row-item.is) in
    still_there items c.loop-row.row-index row once c.loop-row-test.true c.row-item.is c.args.rows.now.rows c.loop-row.rows.rows c.loop-row.invariant.rows (c.requires row there)

pub loop-row-preserved : goal.loop-row-preserved
loop-row-preserved c =
    let items = c.as_slice-row-items.result.now in
    let once = subst (IsDistinct solution_eq) (sym c.as_slice-row-items.ensures.rows) c.as_slice-row-items.ensures.distinct in
    record {
      rows = one_out items c.loop-row.row-index c.row-item.result once c.loop-row-test.true c.row-item.is c.args.rows.now.rows c.loop-row.rows.rows c.remove.new.self.rows
          c.loop-row.invariant.rows c.remove.ensures.rows;
      room = omega (arith, c.loop-row.invariant.room, c.remove.ensures.room);
    }

pub returns-clause-rows : goal.returns-clause-rows
returns-clause-rows c =
    subst (λ (l : List (List Binding)). AreExactly (IsOfOnly c.args.rows.now.rows l) c.loop-row.rows.rows)
    (take_all c.loop-row.row-index c.as_slice-row-items.result.now c.loop-row-test.false ∙ c.as_slice-row-items.ensures.rows) c.loop-row.invariant.rows
