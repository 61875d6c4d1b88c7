use Rattle.std.proofs.Common.{List, Contains, subst}
use Rattle.sparql_algebra.specs.declared.mapping.Binding.{Binding}
use Rattle.sparql_algebra.specs.RowSets.{AreExactly, IsProjectedRow}
use Rattle.pattern_join.specs.Meaning.{graph_in}
use Rattle.query_eval.specs.Parts.{first_rows}
use Rattle.query_eval.proofs.ListsOfRows.{some_rows, own_rows}
use Rattle.query_eval.proofs.Projections.{answered}
use Rattle.query_eval.proofs.query.answer.Goals as goal

pub first-requires : goal.first-requires
first-requires g c =
    let terms = g.T.TermTable.terms c.args.table.now in
    some_rows terms (graph_in terms c.args.view.now) c.args.query.now.pattern c.in_ok-lists.lists.items c.in_ok-lists.ensures.rows

pub returns-clause-rows : goal.returns-clause-rows
returns-clause-rows g c =
    let terms = g.T.TermTable.terms c.args.table.now in
    let query = c.args.query.now in
    let graph = graph_in terms c.args.view.now in
    let lists = c.in_ok-lists.lists.items in
    let projections = c.in_ok-project_rows.field-0.rows in
    answered terms query graph (first_rows lists) projections (own_rows terms graph query.pattern lists c.in_ok-lists.ensures.rows).solutions
    (subst (λ (rows : List (List Binding)). AreExactly (IsProjectedRow query.columns (Contains rows)) projections) c.first.ensures c.in_ok-project_rows.ensures)
