-- Which triples answer a list of templates, and when they are too many.
use Rattle.std.specs.Prelude.{◌≡◌, ◌<◌, ℕ, List, length, filter, refl, ⊤}
use Rattle.triple_index.specs.declared.triple.IdTriple.{IdTriple}
use Rattle.triple_index.specs.declared.triple.IdPattern.{IdPattern}
use Rattle.triple_index.specs.Fits.{fits}
use Rattle.triple_index.specs.Graphs.{fits_one}
use Rattle.pattern_join.specs.declared.fault.EvalFault.{EvalFault}
use Rattle.pattern_join.specs.declared.fault.EvalFault.TheVariants.{TooWide, NoMemory}
use Rattle.pattern_join.specs.declared.matching.TheConstants.{WIDTH_LIMIT}

-- the most triples that an answer may have
width_limit : WIDTH_LIMIT ≡ 65536
width_limit = refl

-- the answer to templates is the triples of the graph that fit at least one of them, in the order of the graph
abbrev pub answer : List IdPattern → List IdTriple → List IdTriple
answer templates graph = filter (fits_one fits templates) graph

-- the width of templates over a graph is the number of triples of their answer
abbrev pub width : List IdPattern → List IdTriple → ℕ
width templates graph = length (answer templates graph)

-- why there is no answer of this width: it is over the limit, or memory ran out
abbrev pub IsOverwide : ℕ → EvalFault → Type 0
IsOverwide width TooWide = 65536 < width
IsOverwide width NoMemory = ⊤
