-- The rows of a view.
use Rattle.std.proofs.Common.{List, ◌++◌, filter, subst}
use Rattle.std.specs.List.Sorted.{IsPermutation}
use Rattle.triple_index.specs.Changes.{AreOrdered}
use Rattle.triple_index.specs.Fits.{fits}
use Rattle.triple_index.specs.Rows.{rows_of}
use Rattle.triple_index.specs.declared.triple.IdTriple.{IdTriple}
use Rattle.triple_index.proofs.Rows.{rows_are, changed_ordered}
use Rattle.triple_index.proofs.view.View.rows.Goals as goal

pub returns-clause-rows : goal.returns-clause-rows
returns-clause-rows g c =
    let mask = c.args.mask.now in
    let fields = c.self.inside in
    subst (λ (l : List IdTriple). IsPermutation (filter (fits mask) l) (rows_of mask c.range.result.now fields.removed.now ++ filter (fits mask) c.range-2.result.now)) c.self.view_is
    (rows_are mask fields.index.now.triples fields.removed.now fields.inserted.now c.range.result.now c.range-2.result.now
    c.range.ensures.ordered c.self.invariant.1 c.self.invariant.2 c.range.ensures.fitting c.range-2.ensures)

pub returns-clause-ordered : goal.returns-clause-ordered
returns-clause-ordered g c =
    let fields = c.self.inside in
    subst AreOrdered c.self.view_is
    (changed_ordered fields.index.now.triples (record { removed = fields.removed.now; inserted = fields.inserted.now }) c.range.ensures.ordered)
