use Rattle.std.proofs.Common.{List, Contains, subst}
use Rattle.sparql_algebra.specs.declared.mapping.Binding.{Binding}
use Rattle.sparql_algebra.specs.RowSets.{AreExactly, IsFiltered}
use Rattle.query_eval.specs.Parts.{first_rows}
use Rattle.query_eval.proofs.TakenRows.{taken_rows}
use Rattle.query_eval.proofs.operators.filter.Goals as goal

pub returns : goal.returns
returns g c =
    let terms = g.T.TermTable.terms c.args.table.now in
    let condition = c.args.condition.now in
    let inner = first_rows c.args.inner.items in
    let rows = c.in_ok-rows.rows in
    let exactly = subst (λ (i : List (List Binding)). AreExactly (IsFiltered terms condition (Contains i)) rows.rows) c.first.ensures c.in_ok-rows.ensures.rows in
    taken_rows (IsFiltered terms condition (Contains inner)) c.args.room.now c.taken.new.room rows c.taken.result c.args.inner.items c.in_ok-with_side.field-0.items
    exactly c.taken.ensures.same c.in_ok-with_side.ensures c.taken.ensures.distinct c.taken.ensures.rising c.taken.ensures.room
