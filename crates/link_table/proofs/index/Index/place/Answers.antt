use Rattle.std.proofs.Common.{rules}
use Rattle.std.proofs.lemmas.List.Sorted.{answers_always}
use Rattle.link_table.proofs.RisingPairs.{searched}
use Rattle.link_table.proofs.index.Index.place.Goals as goal

-- the closure gives a pair's number, and the slice is the pairs
pub returns : goal.returns
returns c =
    let facts = c.binary_search_by_key.ensures in
    let by_number = facts.position (λ pair. pair.0) (answers_always _ _ _ (λ f a r g called. search rules)) in
    rw (← c.self.view_is, ← c.deref.ensures.value, c.ok.ensures.value) (searched c.deref.result.now (rw c.deref.ensures.value c.self.invariant) c.args.number c.binary_search_by_key.result facts.bound by_number)
