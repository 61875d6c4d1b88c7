use Rattle.std.proofs.Common.{◌+◌, ◌≤◌, IfOk, IfErr, subst}
use Rattle.sparql_algebra.specs.Listed.{width_of}
use Rattle.pattern_join.specs.Answers.{IsOverwide}
use Rattle.query_eval.specs.Reads.{reads}
use Rattle.session_core.specs.Numbers.{graph_of}
use Rattle.session_core.specs.Prepared.{AreRows}
use Rattle.session_core.proofs.TablesAreAnswers.{rows_found, rows_wide, rows_read}
use Rattle.session_core.proofs.facts.Facts.rows_for.Goals as goal

pub returns-clause-rows : goal.returns-clause-rows
returns-clause-rows g c =
    subst (λ numbers. IfOk c.answer.result (λ rows. AreRows numbers c.args.query.now rows.rows)) c.self.view_is
    (rows_found _ c.self.invariant.1 c.args.query.now _ c.answer.result c.plain-view.ensures c.answer.ensures.rows c.answer.ensures.narrow)

pub returns-clause-wide : goal.returns-clause-wide
returns-clause-wide g c =
    subst (λ numbers. IfErr c.answer.result (IsOverwide (width_of c.args.query.now.pattern (graph_of numbers)))) c.self.view_is
    (rows_wide _ c.self.invariant.1 c.args.query.now _ c.answer.result c.plain-view.ensures c.answer.ensures.wide)

pub returns-clause-reads : goal.returns-clause-reads
returns-clause-reads g c =
    subst (λ numbers. c.answer.new.steps ≤ c.args.steps.now + reads c.args.query.now.pattern (graph_of numbers)) c.self.view_is
    (rows_read _ c.self.invariant.1 c.args.query.now _ _ _ c.plain-view.ensures c.answer.ensures.reads)
