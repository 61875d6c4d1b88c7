-- The parts that a net change is made of, by what they contain.
use Rattle.std.specs.Prelude.{◌≡◌, ◌↔◌, true, List, Contains}
use Rattle.triple_index.specs.declared.triple.IdTriple.{IdTriple}
use Rattle.triple_index.specs.declared.triple.IdPattern.{IdPattern}
use Rattle.triple_index.specs.Fits.{fits}
use Rattle.triple_index.specs.Graphs.{fits_one}

-- two lists have the same triples
abbrev pub HasSame : List IdTriple → List IdTriple → Type 0
HasSame triples other = (t : IdTriple) → Contains other t ↔ Contains triples t

-- these are the triples that are not among others
abbrev pub IsRest : List IdTriple → List IdTriple → List IdTriple → Type 0
IsRest triples others left = (t : IdTriple) → Contains left t ↔ (Contains triples t × (Contains others t → ⊥))

-- these are the triples of the graph that fit a pattern
abbrev pub HasFitting : List IdTriple → List IdPattern → List IdTriple → Type 0
HasFitting graph patterns read = (t : IdTriple) → Contains read t ↔ (Contains graph t × (fits_one fits patterns t ≡ true))
