use Rattle.std.proofs.Common.{sym, subst}
use Rattle.std.proofs.lemmas.List.Kept.{IsStrictlySortedBy-filter}
use Rattle.triple_index.specs.Changes.{AreOrdered}
use Rattle.triple_index.specs.Fits.{fits}
use Rattle.triple_index.specs.Graphs.{fits_one}
use Rattle.triple_index.specs.IdOrder.{id_triple_cmp}
use Rattle.delta_eval.proofs.afresh.of_templates.Goals as goal

pub rows_of-requires : goal.rows_of-requires
rows_of-requires g c =
    subst AreOrdered (sym c.in_ok-triples.ensures.matches) (IsStrictlySortedBy-filter id_triple_cmp (fits_one fits c.args.templates.now) c.args.view.now c.rows.ensures.ordered)
