-- The next row.
use Rattle.std.proofs.Common.{refl}
use Rattle.triple_index.proofs.Nets.{nil_ordered}
use Rattle.triple_index.proofs.Rows.{next_inserted, none_left}
use Rattle.triple_index.proofs.view.RowsOf.find.Goals as goal

pub first_row-requires-2 : goal.first_row-requires-2
first_row-requires-2 g c = nil_ordered

pub returns-in-Some-first_row : goal.returns-in-Some-first_row
returns-in-Some-first_row g c =
    let fields = c.self.inside in
    next_inserted fields.mask fields.kept.now fields.removed.now fields.inserted.now c.in-Some-first_row.rest.now c.args.self.now c.in-Some-first_row.row
    c.self.view_is c.in_default.ensures c.in-Some-first_row.ensures

pub returns : goal.returns
returns g c =
    let fields = c.self.inside in (
      none_left fields.mask fields.kept.now fields.removed.now fields.inserted.now c.args.self.now c.self.view_is c.in_default.ensures c.in_default-first_row.ensures,
      refl,
    )
