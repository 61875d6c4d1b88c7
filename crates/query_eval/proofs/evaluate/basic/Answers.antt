use Rattle.std.proofs.Common.{◌∙◌, ◌<◌, [], ◌∷◌, length, arith, ap}
use Rattle.std.proofs.lemmas.Result.{err_from_is_err_and}
use Rattle.sparql_algebra.specs.Solutions.{RowList}
use Rattle.pattern_join.specs.Meaning.{graph_in}
use Rattle.query_eval.proofs.Rooms.{bgp_evaluated, bgp_over, bgp_fails}
use Rattle.query_eval.proofs.evaluate.basic.Goals as goal

pub returns-in_err-rows-clause-part : goal.returns-in_err-rows-clause-part
returns-in_err-rows-clause-part g c =
    let terms = g.T.TermTable.terms c.args.table.now in
    let p = err_from_is_err_and c.from_residual.result c.from_residual.ensures.1 in
    rw (p.1, p.2) (bgp_fails terms c.requires.once (graph_in terms c.args.view.now) c.args.bgp.now c.args.room.now c.in_err-rows.field-0.0 c.requires.room c.in_err-rows.ensures.wide)

pub returns-then-len-room-clause-part : goal.returns-then-len-room-clause-part
returns-then-len-room-clause-part g c =
    let terms = g.T.TermTable.terms c.args.table.now in
    let rows = c.in_ok-rows.rows.rows in
    let over : c.args.room.now < length rows = let count = c.len.ensures.length in let test = c.if-len-room.true in omega (arith, count, test) in
    bgp_over terms c.requires.once (graph_in terms c.args.view.now) c.args.bgp.now c.args.room.now rows c.in_ok-rows.ensures.solutions c.len.ensures.distinct over

pub returns-clause-part : goal.returns-clause-part
returns-clause-part g c =
    let terms = g.T.TermTable.terms c.args.table.now in
    let graph = graph_in terms c.args.view.now in
    let lists = c.in_ok-with_side.field-0.items in
    let rows = c.in_ok-rows.rows in
    let alone = c.in_ok-with_side.ensures ∙ ap (λ l. c.taken.result ∷ l) c.new.ensures.items ∙ ap (λ (l : RowList). l ∷ []) c.taken.ensures.same in
    bgp_evaluated terms c.requires.once graph c.args.bgp.now c.args.room.now c.taken.new.room rows lists c.in_ok-rows.ensures.solutions c.taken.ensures.distinct c.taken.ensures.rising
    c.taken.ensures.room alone
