-- Where a triple in order stands to a pattern.
use Rattle.std.specs.Prelude.{Option, Some, None}
use Rattle.std.specs.Ordering.{ordering_then}
use Rattle.std.specs.declared.cmp.Ordering.{Ordering}
use Rattle.std.specs.declared.cmp.Ordering.TheVariants.{Equal}
use Rattle.m3_terms.specs.declared.table.TermId.{TermId}
use Rattle.triple_index.specs.declared.triple.IdTriple.{IdTriple}
use Rattle.triple_index.specs.declared.triple.IdPattern.{IdPattern}
use Rattle.triple_index.specs.IdOrder.{id_cmp}

-- where a number stands to a place: as `next` says where they are equal, and nowhere but there at a wildcard
abbrev pub place_side : Option TermId → TermId → Ordering → Ordering
place_side None id next = Equal
place_side (Some wanted) id next = ordering_then (id_cmp id wanted) next

-- where a triple stands to the places of a pattern that are fixed, up to the first wildcard
abbrev pub side : IdPattern → IdTriple → Ordering
side pattern triple =
    place_side pattern.subject triple.subject (place_side pattern.predicate triple.predicate (place_side pattern.object triple.object Equal))
