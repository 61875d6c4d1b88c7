use Rattle.std.proofs.Common.{List, ◌++◌, Contains, subst}
use Rattle.sparql_algebra.specs.Merged.{IsJoined}
use Rattle.sparql_algebra.specs.TermSolutions.{id_var}
use Rattle.sparql_algebra.specs.declared.mapping.Binding.{Binding}
use Rattle.sparql_algebra.specs.RowSets.{AreExactly}
use Rattle.query_eval.specs.Parts.{first_rows}
use Rattle.query_eval.proofs.TakenRows.{taken_rows}
use Rattle.query_eval.proofs.operators.join.Goals as goal

pub returns : goal.returns
returns c =
    let left = first_rows c.args.left.items in
    let right = first_rows c.args.right.items in
    let rows = c.in_ok-rows.rows in
    let of_left = subst (λ (l : List (List Binding)). AreExactly (IsJoined id_var (Contains l) (Contains c.first-2.result.now.rows)) rows.rows) c.first.ensures c.in_ok-rows.ensures.rows in
    let of_both = subst (λ (r : List (List Binding)). AreExactly (IsJoined id_var (Contains left) (Contains r)) rows.rows) c.first-2.ensures of_left in
    taken_rows (IsJoined id_var (Contains left) (Contains right)) c.args.room.now c.taken.new.room rows c.taken.result (c.args.left.items ++ c.args.right.items) c.in_ok-with_sides.field-0.items
    of_both c.taken.ensures.same c.in_ok-with_sides.ensures c.taken.ensures.distinct c.taken.ensures.rising c.taken.ensures.room
