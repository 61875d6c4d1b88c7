use Rattle.std.proofs.Common.{◌≡◌, fold}
use Rattle.std.specs.Vec.Iter.{into_iter_items}
use Rattle.m3_intern.specs.Interned.{with_term, fresh}
use Rattle.m3_intern.proofs.TermLists.{absent}
use Rattle.m3_intern.proofs.draft.fresh_terms.Given as goal

abbrev pub invariant-loop-term : goal.invariant-loop-term
invariant-loop-term l = fold with_term l.terms.keys (absent l.kept.keys (into_iter_items l.term-iterator)) ≡ fresh l.kept.keys l.fn.wanted
