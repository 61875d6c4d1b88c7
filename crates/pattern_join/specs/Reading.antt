-- What was read of an answer before it is put in order.
use Rattle.std.specs.Prelude.{◌≤◌, List, length}
use Rattle.std.specs.List.Sorted.{IsPermutation}
use Rattle.triple_index.specs.Changes.{AreOrdered}
use Rattle.triple_index.specs.declared.triple.IdTriple.{IdTriple}
use Rattle.triple_index.specs.declared.triple.IdPattern.{IdPattern}
use Rattle.pattern_join.specs.Answers.{answer}

-- these are the triples of the answer, in any order, and they are within the limit
pub record IsRead (templates : List IdPattern) (graph found : List IdTriple) : Type 0 where
  pub same : IsPermutation (answer templates graph) found
  pub ordered : AreOrdered (answer templates graph)
  pub narrow : length found ≤ 65536
