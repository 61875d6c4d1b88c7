use Rattle.std.proofs.Common.{slice_get, subst}
use Rattle.m3_terms.specs.TermTable.{NamesOnce}
use Rattle.m3_intern.specs.Interned.{Kept}
use Rattle.m3_intern.proofs.Positions.{named_once}
use Rattle.m3_intern.proofs.interner.InternerTermTable.term_of.Goals as goal

pub returns-clause-once : goal.returns-clause-once
returns-clause-once c = subst (λ (kept : Kept). NamesOnce (slice_get kept.terms)) c.self.view_is (named_once _ c.self.invariant.once)
