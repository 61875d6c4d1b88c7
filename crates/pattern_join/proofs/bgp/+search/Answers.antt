-- The search, row by row of its first pattern.
use Rattle.std.proofs.Common.{◌<◌, length, subst, arith, rules}
use Rattle.std.proofs.lemmas.Result.{err_from_is_err_and}
use Rattle.std.specs.List.{AllByRecursion}
use Rattle.sparql_algebra.specs.Valid.{HasNamedTriple}
use Rattle.triple_index.specs.Fits.{fits}
use Rattle.pattern_join.specs.Search.{IsOfOrReached}
use Rattle.pattern_join.proofs.Alike.{IsKnown}
use Rattle.pattern_join.proofs.Searching.{result_why, itself_found, itself_over, started, passed, followed, found_over, next_known, searched_all}
use Rattle.pattern_join.proofs.bgp.+search.Goals as goal

pub returns-in_err-gather_within-clause-wide : goal.returns-in_err-gather_within-clause-wide
returns-in_err-gather_within-clause-wide g t c =
    let terms = g.T.TermTable.terms c.args.table.now in
    let p = err_from_is_err_and c.from_residual-in_err-gather_within.result c.from_residual-in_err-gather_within.ensures.1 in
    result_why (IsOfOrReached c.args.found.now.rows terms c.args.view.now c.args.patterns.now c.args.from.now) _ _ p.0 p.1 p.2
    (itself_over terms c.args.view.now c.args.from.now c.in_ok-copy.field-0 c.in_ok-copy.ensures.equal c.args.found.now.rows c.args.patterns.now
    c.in_err-gather_within.field-0.0 c.in_default.ensures.cases c.in_err-gather_within.ensures.fault)

pub returns-in_default-clause-ok : goal.returns-in_default-clause-ok
returns-in_default-clause-ok g t c =
    itself_found (g.T.TermTable.terms c.args.table.now) c.args.view.now c.args.from.now c.in_ok-copy.field-0 c.in_ok-copy.ensures.equal c.args.found.now.rows c.args.patterns.now
    c.gather_within.new.self.rows c.in_default.ensures.cases c.in_ok-gather_within.ensures.ok

pub loop-row-init : goal.loop-row-init
loop-row-init g t c =
    started (g.T.TermTable.terms c.args.table.now) c.args.view.now c.in-Some.pattern.now c.in-Some.rest.now c.args.from.now (fits c.in-Some-mask_of.mask)
    c.in-Some-mask_of.ensures c.rows-rows.result c.requires.triples c.rows-rows.ensures.rows c.requires.once
    (record { rising = c.requires.rising; named = c.requires.named }) c.args.found.now.rows c.args.steps.now c.requires.narrow

pub loop-row-preserved-in-None : goal.loop-row-preserved-in-None
loop-row-preserved-in-None g t c =
    passed c.in-Some-next.ensures.row c.loop-row.invariant c.in-Some-next.ensures.counted c.in_ok-extended.ensures c.in-None.is

pub search-requires : goal.search-requires
search-requires g t c κs within =
    let known : IsKnown (g.T.TermTable.terms c.args.table.now) c.in-Some-2.next =
    next_known c.in-Some-next.ensures.row c.loop-row.invariant c.in_ok-extended.ensures c.in-Some-2.is c.requires.once c.requires.triples
    (record { rising = c.requires.rising; named = c.requires.named }) in
    let rising = known.rising in
    let named = known.named in
    let smaller : length c.in-Some.rest.now < length c.args.patterns.now = let more = c.in-Some.ensures.cases.1 in omega (arith, more) in
    let narrow = c.loop-row.invariant.narrow in
    let once = c.requires.once in
    let meant = c.requires.triples in
    let variables = (subst (AllByRecursion (HasNamedTriple 16)) c.in-Some.ensures.cases.0 c.requires.variables).1 in
    search rules

pub returns-in_err-search-in-Some-2-clause-wide : goal.returns-in_err-search-in-Some-2-clause-wide
returns-in_err-search-in-Some-2-clause-wide g t c =
    let terms = g.T.TermTable.terms c.args.table.now in
    let p = err_from_is_err_and c.from_residual-in_err-search-in-Some-2.result c.from_residual-in_err-search-in-Some-2.ensures.1 in
    result_why (IsOfOrReached c.args.found.now.rows terms c.args.view.now c.args.patterns.now c.args.from.now) _ _ p.0 p.1 p.2
    (found_over {terms = terms} {triples = c.args.view.now} {pattern = c.in-Some.pattern.now} {rest = c.in-Some.rest.now} {from = c.args.from.now} c.in-Some-next.ensures.row c.loop-row.invariant c.in_ok-extended.ensures c.in-Some-2.is c.args.patterns.now c.in-Some.ensures.cases.0
    c.in_err-search-in-Some-2.field-0.0 c.in_err-search-in-Some-2.ensures.wide)

pub loop-row-preserved-in_ok-search-in-Some-2 : goal.loop-row-preserved-in_ok-search-in-Some-2
loop-row-preserved-in_ok-search-in-Some-2 g t c =
    followed c.in-Some-next.ensures.row c.loop-row.invariant c.in_ok-extended.ensures c.in-Some-2.is c.in-Some-next.ensures.counted
    c.search.ensures.reads c.in_ok-search-in-Some-2.ensures.ok c.in_ok-search-in-Some-2.ensures.narrow

pub loop-row-preserved : goal.loop-row-preserved
loop-row-preserved g t c =
    followed c.in-Some-next.ensures.row c.loop-row.invariant c.in_ok-extended.ensures c.in-Some-2.is c.in-Some-next.ensures.counted
    c.search.ensures.reads c.in_ok-search-in-Some-2.ensures.ok c.in_ok-search-in-Some-2.ensures.narrow

pub returns-clause-ok : goal.returns-clause-ok
returns-clause-ok g t c = searched_all c.args.patterns.now c.in-Some.ensures.cases.0 c.in_default-next.ensures.row.0 c.loop-row.invariant
