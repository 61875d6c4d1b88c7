-- Distinct rows are distinct triples.
use Rattle.std.proofs.Common.{sym, subst, filter_map}
use Rattle.std.specs.List.{IsDistinct}
use Rattle.std.specs.Ordering.{eq_by_cmp}
use Rattle.m3_terms.specs.Order.{triple_cmp}
use Rattle.answer_bodies.specs.OfRows.{triple_of_row}
use Rattle.answer_bodies.proofs.RowTriples.{distinct_triples}
use Rattle.answer_bodies.proofs.answer.Answer.of_triples.Goals as goal

pub sorted-requires : goal.sorted-requires
sorted-requires g c =
    let terms = g.T.TermTable.terms c.args.table.now in
    let slice = c.as_slice.ensures in
    subst (IsDistinct (eq_by_cmp triple_cmp)) (sym c.in_ok-given.ensures)
    (subst (λ rows. IsDistinct (eq_by_cmp triple_cmp) (filter_map (triple_of_row terms) rows)) (sym slice.rows)
    (distinct_triples terms c.args.rows.now.rows c.names_once.ensures c.requires.rows slice.distinct))
