use Rattle.std.proofs.Common.{IfOk, sym, subst}
use Rattle.session_core.specs.Numbers.{graph_of}
use Rattle.session_core.specs.Prepared.{AreRows, IsTable}
use Rattle.session_core.proofs.TablesAreAnswers.{bound_among, all_named, table_made}
use Rattle.session_core.proofs.facts.Facts.table.Goals as goal

pub of_rows-requires-clause-bound : goal.of_rows-requires-clause-bound
of_rows-requires-clause-bound c = bound_among _ c.args.query.now _ c.args.rows.now.rows c.requires.rows.answer

pub of_rows-requires-clause-named : goal.of_rows-requires-clause-named
of_rows-requires-clause-named c =
    let rows = subst (λ numbers. AreRows numbers c.args.query.now c.args.rows.now.rows) (sym c.self.view_is) c.requires.rows in
    all_named _ c.args.query.now _ c.args.rows.now.rows rows.answer

pub returns : goal.returns
returns c =
    let rows = subst (λ numbers. AreRows numbers c.args.query.now c.args.rows.now.rows) (sym c.self.view_is) c.requires.rows in
    subst (λ numbers. IfOk c.of_rows.result (IsTable (graph_of numbers) c.args.query.now)) c.self.view_is
    (table_made _ c.self.invariant.1 c.args.query.now c.args.rows.now.rows _ c.of_rows.result rows c.in_ok-columns.ensures c.of_rows.ensures.table c.of_rows.ensures.full)
