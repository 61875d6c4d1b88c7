-- The rows that the search reaches from the row that binds nothing.
use Rattle.std.proofs.lemmas.Result.{err_from_is_err_and}
use Rattle.sparql_algebra.specs.Patterns.{IsBgpSolution}
use Rattle.pattern_join.specs.Bgp.{StandsFor}
use Rattle.pattern_join.specs.Meaning.{graph_in}
use Rattle.pattern_join.proofs.Reached.{all_found, too_many_found}
use Rattle.pattern_join.proofs.Searching.{result_why}
use Rattle.pattern_join.proofs.bgp.bgp_all.Goals as goal

pub returns-in_err-search-clause-wide : goal.returns-in_err-search-clause-wide
returns-in_err-search-clause-wide g c =
    let terms = g.T.TermTable.terms c.args.table.now in
    let p = err_from_is_err_and c.from_residual.result c.from_residual.ensures.1 in
    result_why (StandsFor terms (IsBgpSolution c.args.bgp.now (graph_in terms c.args.view.now))) _ _ p.0 p.1 p.2
    (too_many_found terms c.term_of.ensures.once c.args.view.now c.requires.triples c.new-found.result.rows c.new-start.result c.as_slice.result.now c.args.bgp.now
    c.new-found.ensures c.new-start.ensures c.as_slice.ensures c.in_err-search.field-0.0 c.in_err-search.ensures.wide)

pub returns-clause-solutions : goal.returns-clause-solutions
returns-clause-solutions g c =
    all_found (g.T.TermTable.terms c.args.table.now) c.term_of.ensures.once c.args.view.now c.requires.triples c.new-found.result.rows c.new-start.result c.as_slice.result.now c.args.bgp.now
    c.new-found.ensures c.new-start.ensures c.as_slice.ensures c.search.new.found.rows c.in_ok-search.ensures.ok
