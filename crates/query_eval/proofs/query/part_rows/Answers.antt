use Rattle.pattern_join.specs.Meaning.{graph_in}
use Rattle.query_eval.proofs.Projections.{counted, narrow_result, wide_result}
use Rattle.query_eval.proofs.query.part_rows.Goals as goal

pub returns-clause-width : goal.returns-clause-width
returns-clause-width g c =
    let terms = g.T.TermTable.terms c.args.table.now in
    counted c.args.pattern.now (graph_in terms c.args.view.now) terms c.evaluate.new.room c.evaluate.result (λ v. v.items) c.evaluate.ensures.part

pub returns-clause-narrow : goal.returns-clause-narrow
returns-clause-narrow g c =
    let terms = g.T.TermTable.terms c.args.table.now in
    narrow_result c.args.pattern.now (graph_in terms c.args.view.now) terms c.evaluate.new.room c.evaluate.result (λ v. v.items) c.evaluate.ensures.part

pub returns-clause-wide : goal.returns-clause-wide
returns-clause-wide g c =
    let terms = g.T.TermTable.terms c.args.table.now in
    wide_result c.args.pattern.now (graph_in terms c.args.view.now) terms c.evaluate.new.room c.evaluate.result (λ v. v.items) c.evaluate.ensures.part
