use Rattle.std.proofs.Common.{List, Contains, subst, arith}
use Rattle.sparql_algebra.specs.declared.mapping.Binding.{Binding}
use Rattle.sparql_algebra.specs.RowSets.{AreExactly, IsProjectedRow}
use Rattle.pattern_join.specs.Meaning.{graph_in}
use Rattle.query_eval.specs.Parts.{first_rows}
use Rattle.query_eval.proofs.ListsOfRows.{first_is, some_rows, own_rows}
use Rattle.query_eval.proofs.Projections.{answered}
use Rattle.delta_eval.proofs.afresh.of_query.Goals as goal

pub index-requires : goal.index-requires
index-requires g c =
    let terms = g.T.TermTable.terms c.args.table.now in
    let parts = c.in_ok-parts.parts in
    let some = some_rows terms (graph_in terms c.args.view.now) c.args.query.now.pattern parts.items c.in_ok-parts.ensures.rows in
    omega (arith, parts.ok.0, some)

pub returns-clause-rows : goal.returns-clause-rows
returns-clause-rows g c =
    let terms = g.T.TermTable.terms c.args.table.now in
    let query = c.args.query.now in
    let graph = graph_in terms c.args.view.now in
    let parts = c.in_ok-parts.parts.items in
    let rows = c.in_ok-parts.ensures.rows in
    let answer = c.in_ok-answer.answer.rows in
    let first = first_is parts c.index.result.now (some_rows terms graph query.pattern parts rows) c.index.ensures in
    record {
      valid = c.requires.valid;
      part_rows = rows;
      answer_rows = answered terms query graph (first_rows parts) answer (own_rows terms graph query.pattern parts rows).solutions
          (subst (λ (l : List (List Binding)). AreExactly (IsProjectedRow query.columns (Contains l)) answer) first c.in_ok-answer.ensures);
    }
