-- Indexes and changes as contracts see them.
use Rattle.std.specs.Prelude.{ℕ, List, Contains}
use Rattle.std.specs.List.Sorted.{IsStrictlySortedBy}
use Rattle.triple_index.specs.declared.triple.IdTriple.{IdTriple}
use Rattle.triple_index.specs.IdOrder.{id_triple_cmp, id_triple_eq}
use Rattle.triple_index.specs.Graphs.{after}

-- an index: its triples in order, each once, and how many more it can take without memory
pub record Graph : Type 0 where
  pub triples : List IdTriple
  pub room : ℕ

-- a change: the triples that it removes, and those that it inserts
pub record Net : Type 0 where
  pub removed : List IdTriple
  pub inserted : List IdTriple

-- triples are in order, each once
abbrev pub AreOrdered : List IdTriple → Type 0
AreOrdered triples = IsStrictlySortedBy id_triple_cmp triples

-- a change is net for a graph: what it removes is in the graph, and what it inserts is not
pub record IsNet (graph : List IdTriple) (change : Net) : Type 0 where
  pub removed_there : (t : IdTriple) → Contains change.removed t → Contains graph t
  pub inserted_new : (t : IdTriple) → Contains change.inserted t → Contains graph t → ⊥

-- the graph that a change makes
abbrev pub changed : List IdTriple → Net → List IdTriple
changed graph change = after id_triple_cmp id_triple_eq graph change.removed change.inserted
