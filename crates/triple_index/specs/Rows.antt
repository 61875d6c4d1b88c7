-- The rows that a view hands out.
use Rattle.std.specs.Prelude.{List, filter}
use Rattle.triple_index.specs.declared.triple.IdTriple.{IdTriple}
use Rattle.triple_index.specs.declared.triple.IdPattern.{IdPattern}
use Rattle.triple_index.specs.Fits.{fits}
use Rattle.triple_index.specs.Graphs.{without}
use Rattle.triple_index.specs.IdOrder.{id_triple_eq}

-- the triples that fit a mask and are not removed
abbrev pub rows_of : IdPattern → List IdTriple → List IdTriple → List IdTriple
rows_of mask triples removed = without id_triple_eq (filter (fits mask) triples) removed
