use Rattle.std.proofs.Common.{◌≤◌, ◌++◌, Contains, Option, MatchResult, subst, refl, arith, rules}
use Rattle.std.proofs.lemmas.Result.{err_from_is_err_and}
use Rattle.sparql_algebra.specs.declared.expr.Expr.{Expr}
use Rattle.sparql_algebra.specs.Merged.{IsJoined, IsLeftJoined}
use Rattle.sparql_algebra.specs.RowSets.{IsOfEither, IsFiltered, RowPasses}
use Rattle.sparql_algebra.specs.TermSolutions.{id_var}
use Rattle.sparql_algebra.specs.Evaluation.{IsSolution}
use Rattle.pattern_join.specs.Meaning.{graph_in}
use Rattle.query_eval.specs.Parts.{AreTaken, WhyNotTaken, first_rows}
use Rattle.query_eval.proofs.ListsOfRows.{some_rows, own_rows}
use Rattle.query_eval.proofs.RowsOfOperators.{join_names, union_names, left_join_names, filter_names}
use Rattle.query_eval.proofs.Rooms.{first_fails, second_fails, finished, inner_fails, finished_inner}
use Rattle.query_eval.proofs.Sides.{join_sides, join_named, union_sides, union_named, left_join_sides, left_join_named, filter_side, filter_named}
use Rattle.query_eval.proofs.evaluate.+evaluate.Goals as goal

pub evaluate-requires : goal.evaluate-requires
evaluate-requires g t c κs within =
    let terms = g.T.TermTable.terms c.args.table.now in
    let graph = graph_in terms c.args.view.now in
    let sides = join_sides graph c.in-Join.is c.get.ensures refl in
    let names = sides.left_names c.requires.variables in
    let smaller = sides.left_smaller in
    let once = c.requires.once in
    let triples = c.requires.triples in
    let room = c.requires.room in
    search rules

pub returns-in_err-left-in-Join-clause-part : goal.returns-in_err-left-in-Join-clause-part
returns-in_err-left-in-Join-clause-part g t c =
    let terms = g.T.TermTable.terms c.args.table.now in
    let graph = graph_in terms c.args.view.now in
    let p = err_from_is_err_and c.from_residual.result c.from_residual.ensures.1 in
    rw (p.1, p.2) (first_fails terms c.requires.once graph (join_sides graph c.in-Join.is c.get.ensures refl) c.args.room.now c.in_err-left-in-Join.field-0.0 c.in_err-left-in-Join.ensures.part)

pub returns-in_err-left-in-Join-clause-reads : goal.returns-in_err-left-in-Join-clause-reads
returns-in_err-left-in-Join-clause-reads g t c =
    let terms = g.T.TermTable.terms c.args.table.now in
    let graph = graph_in terms c.args.view.now in
    let sides = join_sides graph c.in-Join.is c.get.ensures refl in
    let read = sides.read in
    omega (arith, c.in_err-left-in-Join.ensures.reads, read)

pub evaluate-requires-in-Join : goal.evaluate-requires-in-Join
evaluate-requires-in-Join g t c κs within =
    let terms = g.T.TermTable.terms c.args.table.now in
    let graph = graph_in terms c.args.view.now in
    let sides = join_sides graph c.in-Join.is c.get.ensures c.get-in-Join.ensures in
    let names = sides.right_names c.requires.variables in
    let smaller = sides.right_smaller in
    let once = c.requires.once in
    let triples = c.requires.triples in
    let part = c.in_ok-left-in-Join.ensures.part in
    let before = c.requires.room in
    let less = part.count in
    let room : c.evaluate.new.room ≤ 65536 = omega (arith, before, less) in
    search rules

pub returns-in_err-right-in-Join-clause-part : goal.returns-in_err-right-in-Join-clause-part
returns-in_err-right-in-Join-clause-part g t c =
    let terms = g.T.TermTable.terms c.args.table.now in
    let graph = graph_in terms c.args.view.now in
    let p = err_from_is_err_and c.from_residual-in_err-right-in-Join.result c.from_residual-in_err-right-in-Join.ensures.1 in
    rw (p.1, p.2) (second_fails terms c.requires.once graph (join_sides graph c.in-Join.is c.get.ensures c.get-in-Join.ensures) c.in_ok-left-in-Join.ensures.part
    c.in_err-right-in-Join.field-0.0 c.in_err-right-in-Join.ensures.part)

pub returns-in_err-right-in-Join-clause-reads : goal.returns-in_err-right-in-Join-clause-reads
returns-in_err-right-in-Join-clause-reads g t c =
    let terms = g.T.TermTable.terms c.args.table.now in
    let graph = graph_in terms c.args.view.now in
    let sides = join_sides graph c.in-Join.is c.get.ensures c.get-in-Join.ensures in
    let read = sides.read in
    omega (arith, c.in_ok-left-in-Join.ensures.reads, c.in_err-right-in-Join.ensures.reads, read)

pub returns-in_ok-right-in-Join-clause-reads : goal.returns-in_ok-right-in-Join-clause-reads
returns-in_ok-right-in-Join-clause-reads g t c =
    let terms = g.T.TermTable.terms c.args.table.now in
    let graph = graph_in terms c.args.view.now in
    let sides = join_sides graph c.in-Join.is c.get.ensures c.get-in-Join.ensures in
    let read = sides.read in
    omega (arith, c.in_ok-left-in-Join.ensures.reads, c.in_ok-right-in-Join.ensures.reads, read)

pub returns-in_ok-right-in-Join-clause-part : goal.returns-in_ok-right-in-Join-clause-part
returns-in_ok-right-in-Join-clause-part g t c =
    let terms = g.T.TermTable.terms c.args.table.now in
    let graph = graph_in terms c.args.view.now in
    let l = first_rows c.in_ok-left-in-Join.left.items in
    let r = first_rows c.in_ok-right-in-Join.right.items in
    let left = c.in_ok-left-in-Join.ensures.part in
    let right = c.in_ok-right-in-Join.ensures.part in
    let low = own_rows terms graph c.get.result.now c.in_ok-left-in-Join.left.items left.rows in
    let high = own_rows terms graph c.get-in-Join.result.now c.in_ok-right-in-Join.right.items right.rows in
    let names = join_names terms c.requires.once l r low.rising high.rising (IsSolution c.get.result.now graph) (IsSolution c.get-in-Join.result.now graph)
    low.solutions high.solutions in
    finished terms c.requires.once graph (join_sides graph c.in-Join.is c.get.ensures c.get-in-Join.ensures) left right (IsJoined id_var (Contains l) (Contains r))
    (join_named graph terms (IsJoined id_var (Contains l) (Contains r)) c.in-Join.is c.get.ensures c.get-in-Join.ensures names) c.join.new.room c.join.result (λ v. v.items) c.join.ensures

pub evaluate-requires-in-Union : goal.evaluate-requires-in-Union
evaluate-requires-in-Union g t c κs within =
    let terms = g.T.TermTable.terms c.args.table.now in
    let graph = graph_in terms c.args.view.now in
    let sides = union_sides graph c.in-Union.is c.get-in-Union.ensures refl in
    let names = sides.left_names c.requires.variables in
    let smaller = sides.left_smaller in
    let once = c.requires.once in
    let triples = c.requires.triples in
    let room = c.requires.room in
    search rules

pub returns-in_err-left-in-Union-clause-part : goal.returns-in_err-left-in-Union-clause-part
returns-in_err-left-in-Union-clause-part g t c =
    let terms = g.T.TermTable.terms c.args.table.now in
    let graph = graph_in terms c.args.view.now in
    let p = err_from_is_err_and c.from_residual-in_err-left-in-Union.result c.from_residual-in_err-left-in-Union.ensures.1 in
    rw (p.1, p.2) (first_fails terms c.requires.once graph (union_sides graph c.in-Union.is c.get-in-Union.ensures refl) c.args.room.now c.in_err-left-in-Union.field-0.0 c.in_err-left-in-Union.ensures.part)

pub returns-in_err-left-in-Union-clause-reads : goal.returns-in_err-left-in-Union-clause-reads
returns-in_err-left-in-Union-clause-reads g t c =
    let terms = g.T.TermTable.terms c.args.table.now in
    let graph = graph_in terms c.args.view.now in
    let sides = union_sides graph c.in-Union.is c.get-in-Union.ensures refl in
    let read = sides.read in
    omega (arith, c.in_err-left-in-Union.ensures.reads, read)

pub evaluate-requires-in-Union-2 : goal.evaluate-requires-in-Union-2
evaluate-requires-in-Union-2 g t c κs within =
    let terms = g.T.TermTable.terms c.args.table.now in
    let graph = graph_in terms c.args.view.now in
    let sides = union_sides graph c.in-Union.is c.get-in-Union.ensures c.get-in-Union-2.ensures in
    let names = sides.right_names c.requires.variables in
    let smaller = sides.right_smaller in
    let once = c.requires.once in
    let triples = c.requires.triples in
    let part = c.in_ok-left-in-Union.ensures.part in
    let before = c.requires.room in
    let less = part.count in
    let room : c.evaluate-in-Union.new.room ≤ 65536 = omega (arith, before, less) in
    search rules

pub returns-in_err-right-in-Union-clause-part : goal.returns-in_err-right-in-Union-clause-part
returns-in_err-right-in-Union-clause-part g t c =
    let terms = g.T.TermTable.terms c.args.table.now in
    let graph = graph_in terms c.args.view.now in
    let p = err_from_is_err_and c.from_residual-in_err-right-in-Union.result c.from_residual-in_err-right-in-Union.ensures.1 in
    rw (p.1, p.2) (second_fails terms c.requires.once graph (union_sides graph c.in-Union.is c.get-in-Union.ensures c.get-in-Union-2.ensures) c.in_ok-left-in-Union.ensures.part
    c.in_err-right-in-Union.field-0.0 c.in_err-right-in-Union.ensures.part)

pub returns-in_err-right-in-Union-clause-reads : goal.returns-in_err-right-in-Union-clause-reads
returns-in_err-right-in-Union-clause-reads g t c =
    let terms = g.T.TermTable.terms c.args.table.now in
    let graph = graph_in terms c.args.view.now in
    let sides = union_sides graph c.in-Union.is c.get-in-Union.ensures c.get-in-Union-2.ensures in
    let read = sides.read in
    omega (arith, c.in_ok-left-in-Union.ensures.reads, c.in_err-right-in-Union.ensures.reads, read)

pub returns-in_ok-right-in-Union-clause-reads : goal.returns-in_ok-right-in-Union-clause-reads
returns-in_ok-right-in-Union-clause-reads g t c =
    let terms = g.T.TermTable.terms c.args.table.now in
    let graph = graph_in terms c.args.view.now in
    let sides = union_sides graph c.in-Union.is c.get-in-Union.ensures c.get-in-Union-2.ensures in
    let read = sides.read in
    omega (arith, c.in_ok-left-in-Union.ensures.reads, c.in_ok-right-in-Union.ensures.reads, read)

pub returns-in_ok-right-in-Union-clause-part : goal.returns-in_ok-right-in-Union-clause-part
returns-in_ok-right-in-Union-clause-part g t c =
    let terms = g.T.TermTable.terms c.args.table.now in
    let graph = graph_in terms c.args.view.now in
    let l = first_rows c.in_ok-left-in-Union.left.items in
    let r = first_rows c.in_ok-right-in-Union.right.items in
    let left = c.in_ok-left-in-Union.ensures.part in
    let right = c.in_ok-right-in-Union.ensures.part in
    let low = own_rows terms graph c.get-in-Union.result.now c.in_ok-left-in-Union.left.items left.rows in
    let high = own_rows terms graph c.get-in-Union-2.result.now c.in_ok-right-in-Union.right.items right.rows in
    let names = union_names terms c.requires.once l r low.rising high.rising (IsSolution c.get-in-Union.result.now graph) (IsSolution c.get-in-Union-2.result.now graph)
    low.solutions high.solutions in
    finished terms c.requires.once graph (union_sides graph c.in-Union.is c.get-in-Union.ensures c.get-in-Union-2.ensures) left right (IsOfEither l r)
    (union_named graph terms (IsOfEither l r) c.in-Union.is c.get-in-Union.ensures c.get-in-Union-2.ensures names) c.union.new.room c.union.result (λ v. v.items) c.union.ensures

pub evaluate-requires-in-LeftJoin : goal.evaluate-requires-in-LeftJoin
evaluate-requires-in-LeftJoin g t c κs within =
    let terms = g.T.TermTable.terms c.args.table.now in
    let graph = graph_in terms c.args.view.now in
    let sides = left_join_sides graph c.in-LeftJoin.is c.get-in-LeftJoin.ensures refl in
    let names = sides.left_names c.requires.variables in
    let smaller = sides.left_smaller in
    let once = c.requires.once in
    let triples = c.requires.triples in
    let room = c.requires.room in
    search rules

pub returns-in_err-left-in-LeftJoin-clause-part : goal.returns-in_err-left-in-LeftJoin-clause-part
returns-in_err-left-in-LeftJoin-clause-part g t c =
    let terms = g.T.TermTable.terms c.args.table.now in
    let graph = graph_in terms c.args.view.now in
    let p = err_from_is_err_and c.from_residual-in_err-left-in-LeftJoin.result c.from_residual-in_err-left-in-LeftJoin.ensures.1 in
    rw (p.1, p.2) (first_fails terms c.requires.once graph (left_join_sides graph c.in-LeftJoin.is c.get-in-LeftJoin.ensures refl) c.args.room.now c.in_err-left-in-LeftJoin.field-0.0 c.in_err-left-in-LeftJoin.ensures.part)

pub returns-in_err-left-in-LeftJoin-clause-reads : goal.returns-in_err-left-in-LeftJoin-clause-reads
returns-in_err-left-in-LeftJoin-clause-reads g t c =
    let terms = g.T.TermTable.terms c.args.table.now in
    let graph = graph_in terms c.args.view.now in
    let sides = left_join_sides graph c.in-LeftJoin.is c.get-in-LeftJoin.ensures refl in
    let read = sides.read in
    omega (arith, c.in_err-left-in-LeftJoin.ensures.reads, read)

pub evaluate-requires-in-LeftJoin-2 : goal.evaluate-requires-in-LeftJoin-2
evaluate-requires-in-LeftJoin-2 g t c κs within =
    let terms = g.T.TermTable.terms c.args.table.now in
    let graph = graph_in terms c.args.view.now in
    let sides = left_join_sides graph c.in-LeftJoin.is c.get-in-LeftJoin.ensures c.get-in-LeftJoin-2.ensures in
    let names = sides.right_names c.requires.variables in
    let smaller = sides.right_smaller in
    let once = c.requires.once in
    let triples = c.requires.triples in
    let part = c.in_ok-left-in-LeftJoin.ensures.part in
    let before = c.requires.room in
    let less = part.count in
    let room : c.evaluate-in-LeftJoin.new.room ≤ 65536 = omega (arith, before, less) in
    search rules

pub returns-in_err-right-in-LeftJoin-clause-part : goal.returns-in_err-right-in-LeftJoin-clause-part
returns-in_err-right-in-LeftJoin-clause-part g t c =
    let terms = g.T.TermTable.terms c.args.table.now in
    let graph = graph_in terms c.args.view.now in
    let p = err_from_is_err_and c.from_residual-in_err-right-in-LeftJoin.result c.from_residual-in_err-right-in-LeftJoin.ensures.1 in
    rw (p.1, p.2) (second_fails terms c.requires.once graph (left_join_sides graph c.in-LeftJoin.is c.get-in-LeftJoin.ensures c.get-in-LeftJoin-2.ensures) c.in_ok-left-in-LeftJoin.ensures.part
    c.in_err-right-in-LeftJoin.field-0.0 c.in_err-right-in-LeftJoin.ensures.part)

pub returns-in_err-right-in-LeftJoin-clause-reads : goal.returns-in_err-right-in-LeftJoin-clause-reads
returns-in_err-right-in-LeftJoin-clause-reads g t c =
    let terms = g.T.TermTable.terms c.args.table.now in
    let graph = graph_in terms c.args.view.now in
    let sides = left_join_sides graph c.in-LeftJoin.is c.get-in-LeftJoin.ensures c.get-in-LeftJoin-2.ensures in
    let read = sides.read in
    omega (arith, c.in_ok-left-in-LeftJoin.ensures.reads, c.in_err-right-in-LeftJoin.ensures.reads, read)

pub returns-in_ok-right-in-LeftJoin-clause-reads : goal.returns-in_ok-right-in-LeftJoin-clause-reads
returns-in_ok-right-in-LeftJoin-clause-reads g t c =
    let terms = g.T.TermTable.terms c.args.table.now in
    let graph = graph_in terms c.args.view.now in
    let sides = left_join_sides graph c.in-LeftJoin.is c.get-in-LeftJoin.ensures c.get-in-LeftJoin-2.ensures in
    let read = sides.read in
    omega (arith, c.in_ok-left-in-LeftJoin.ensures.reads, c.in_ok-right-in-LeftJoin.ensures.reads, read)

pub returns-in_ok-right-in-LeftJoin-clause-part : goal.returns-in_ok-right-in-LeftJoin-clause-part
returns-in_ok-right-in-LeftJoin-clause-part g t c =
    let terms = g.T.TermTable.terms c.args.table.now in
    let graph = graph_in terms c.args.view.now in
    let l = first_rows c.in_ok-left-in-LeftJoin.left.items in
    let r = first_rows c.in_ok-right-in-LeftJoin.right.items in
    let left = c.in_ok-left-in-LeftJoin.ensures.part in
    let right = c.in_ok-right-in-LeftJoin.ensures.part in
    let low = own_rows terms graph c.get-in-LeftJoin.result.now c.in_ok-left-in-LeftJoin.left.items left.rows in
    let high = own_rows terms graph c.get-in-LeftJoin-2.result.now c.in_ok-right-in-LeftJoin.right.items right.rows in
    let condition = c.in-LeftJoin.condition in
    let names = left_join_names terms c.requires.once l r low.rising high.rising (IsSolution c.get-in-LeftJoin.result.now graph) (IsSolution c.get-in-LeftJoin-2.result.now graph)
    low.solutions high.solutions condition in
    finished terms c.requires.once graph (left_join_sides graph c.in-LeftJoin.is c.get-in-LeftJoin.ensures c.get-in-LeftJoin-2.ensures) left right
    (IsLeftJoined id_var (Contains l) (Contains r) (RowPasses terms condition))
    (left_join_named graph terms (IsLeftJoined id_var (Contains l) (Contains r) (RowPasses terms condition)) c.in-LeftJoin.is c.get-in-LeftJoin.ensures c.get-in-LeftJoin-2.ensures names)
    c.left_join.new.room c.left_join.result (λ v. v.items)
    (subst (λ (k : Option Expr). MatchResult c.left_join.result
    (λ lists. AreTaken c.evaluate-in-LeftJoin-2.new.room c.left_join.new.room (IsLeftJoined id_var (Contains l) (Contains r) (RowPasses terms k)) (c.in_ok-left-in-LeftJoin.left.items ++ c.in_ok-right-in-LeftJoin.right.items) lists.items)
    (WhyNotTaken c.evaluate-in-LeftJoin-2.new.room (IsLeftJoined id_var (Contains l) (Contains r) (RowPasses terms k)))) c.as_ref.ensures.value c.left_join.ensures)

pub evaluate-requires-in-Filter : goal.evaluate-requires-in-Filter
evaluate-requires-in-Filter g t c κs within =
    let terms = g.T.TermTable.terms c.args.table.now in
    let graph = graph_in terms c.args.view.now in
    let side = filter_side graph c.in-Filter.is c.get-in-Filter.ensures in
    let names = side.names c.requires.variables in
    let smaller = side.smaller in
    let once = c.requires.once in
    let triples = c.requires.triples in
    let room = c.requires.room in
    search rules

pub returns-in_err-inner-in-Filter-clause-part : goal.returns-in_err-inner-in-Filter-clause-part
returns-in_err-inner-in-Filter-clause-part g t c =
    let terms = g.T.TermTable.terms c.args.table.now in
    let graph = graph_in terms c.args.view.now in
    let p = err_from_is_err_and c.from_residual-in_err-inner-in-Filter.result c.from_residual-in_err-inner-in-Filter.ensures.1 in
    rw (p.1, p.2) (inner_fails terms c.requires.once graph (filter_side graph c.in-Filter.is c.get-in-Filter.ensures) c.args.room.now
    c.in_err-inner-in-Filter.field-0.0 c.in_err-inner-in-Filter.ensures.part)

pub returns-in_err-inner-in-Filter-clause-reads : goal.returns-in_err-inner-in-Filter-clause-reads
returns-in_err-inner-in-Filter-clause-reads g t c =
    let terms = g.T.TermTable.terms c.args.table.now in
    let graph = graph_in terms c.args.view.now in
    let side = filter_side graph c.in-Filter.is c.get-in-Filter.ensures in
    let read = side.read in
    omega (arith, c.in_err-inner-in-Filter.ensures.reads, read)

pub returns-in_ok-inner-in-Filter-clause-reads : goal.returns-in_ok-inner-in-Filter-clause-reads
returns-in_ok-inner-in-Filter-clause-reads g t c =
    let terms = g.T.TermTable.terms c.args.table.now in
    let graph = graph_in terms c.args.view.now in
    let side = filter_side graph c.in-Filter.is c.get-in-Filter.ensures in
    let read = side.read in
    omega (arith, c.in_ok-inner-in-Filter.ensures.reads, read)

pub returns-in_ok-inner-in-Filter-clause-part : goal.returns-in_ok-inner-in-Filter-clause-part
returns-in_ok-inner-in-Filter-clause-part g t c =
    let terms = g.T.TermTable.terms c.args.table.now in
    let graph = graph_in terms c.args.view.now in
    let i = first_rows c.in_ok-inner-in-Filter.inner.items in
    let inner = c.in_ok-inner-in-Filter.ensures.part in
    let low = own_rows terms graph c.get-in-Filter.result.now c.in_ok-inner-in-Filter.inner.items inner.rows in
    let names = filter_names terms c.in-Filter.condition i (IsSolution c.get-in-Filter.result.now graph) low.solutions in
    finished_inner terms c.requires.once graph (filter_side graph c.in-Filter.is c.get-in-Filter.ensures) inner (IsFiltered terms c.in-Filter.condition (Contains i))
    (filter_named graph terms (IsFiltered terms c.in-Filter.condition (Contains i)) c.in-Filter.is c.get-in-Filter.ensures names) c.filter.new.room c.filter.result (λ v. v.items) c.filter.ensures

pub join-requires-clause-left : goal.join-requires-clause-left
join-requires-clause-left g t c = some_rows (g.T.TermTable.terms c.args.table.now) (graph_in (g.T.TermTable.terms c.args.table.now) c.args.view.now) c.get.result.now
    c.in_ok-left-in-Join.left.items c.in_ok-left-in-Join.ensures.part.rows

pub join-requires-clause-right : goal.join-requires-clause-right
join-requires-clause-right g t c = some_rows (g.T.TermTable.terms c.args.table.now) (graph_in (g.T.TermTable.terms c.args.table.now) c.args.view.now) c.get-in-Join.result.now
    c.in_ok-right-in-Join.right.items c.in_ok-right-in-Join.ensures.part.rows

pub union-requires-clause-left : goal.union-requires-clause-left
union-requires-clause-left g t c = some_rows (g.T.TermTable.terms c.args.table.now) (graph_in (g.T.TermTable.terms c.args.table.now) c.args.view.now) c.get-in-Union.result.now
    c.in_ok-left-in-Union.left.items c.in_ok-left-in-Union.ensures.part.rows

pub union-requires-clause-right : goal.union-requires-clause-right
union-requires-clause-right g t c = some_rows (g.T.TermTable.terms c.args.table.now) (graph_in (g.T.TermTable.terms c.args.table.now) c.args.view.now) c.get-in-Union-2.result.now
    c.in_ok-right-in-Union.right.items c.in_ok-right-in-Union.ensures.part.rows

pub left_join-requires-clause-left : goal.left_join-requires-clause-left
left_join-requires-clause-left g t c = some_rows (g.T.TermTable.terms c.args.table.now) (graph_in (g.T.TermTable.terms c.args.table.now) c.args.view.now) c.get-in-LeftJoin.result.now
    c.in_ok-left-in-LeftJoin.left.items c.in_ok-left-in-LeftJoin.ensures.part.rows

pub left_join-requires-clause-right : goal.left_join-requires-clause-right
left_join-requires-clause-right g t c = some_rows (g.T.TermTable.terms c.args.table.now) (graph_in (g.T.TermTable.terms c.args.table.now) c.args.view.now) c.get-in-LeftJoin-2.result.now
    c.in_ok-right-in-LeftJoin.right.items c.in_ok-right-in-LeftJoin.ensures.part.rows

pub filter-requires : goal.filter-requires
filter-requires g t c = some_rows (g.T.TermTable.terms c.args.table.now) (graph_in (g.T.TermTable.terms c.args.table.now) c.args.view.now) c.get-in-Filter.result.now
    c.in_ok-inner-in-Filter.inner.items c.in_ok-inner-in-Filter.ensures.part.rows
