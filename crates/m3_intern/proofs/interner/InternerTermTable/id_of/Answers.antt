use Rattle.std.proofs.Common.{◌≡◌, ◌≢◌, ℕ, ◌≤◌, Some, slice_get, sym, subst, arith}
use Rattle.m3_terms.specs.TermTable.{NamesOnce}
use Rattle.m3_intern.specs.Interned.{Kept}
use Rattle.m3_intern.proofs.Positions.{named_once, none_there, found_there}
use Rattle.m3_intern.proofs.TermLists.{few_terms}
use Rattle.m3_intern.proofs.interner.InternerTermTable.id_of.Goals as goal

pub returns-in_err-at-clause-id : goal.returns-in_err-at-clause-id
returns-in_err-at-clause-id c =
    rw c.from_residual.ensures (subst (λ (kept : Kept). (n : ℕ) → slice_get kept.terms n ≢ Some c.args.term.now) c.self.view_is
    (none_there _ _ (sym c.in_err-at.ensures.found)))

pub returns-in_err-at-clause-once : goal.returns-in_err-at-clause-once
returns-in_err-at-clause-once c = subst (λ (kept : Kept). NamesOnce (slice_get kept.terms)) c.self.view_is (named_once _ c.self.invariant.once)

pub overflow_cast-result : goal.overflow_cast-result
overflow_cast-result c =
    omega (arith, c.in_ok-at.ensures.within, few_terms c.self.inside.terms.keys c.self.inside.limit (subst (λ (n : ℕ). n ≤ c.self.inside.limit) c.self.invariant.sum c.self.invariant.within) c.self.invariant.small)

pub returns-clause-id : goal.returns-clause-id
returns-clause-id c = subst (λ (kept : Kept). slice_get kept.terms c.in_ok-at.at ≡ Some c.args.term.now) c.self.view_is (found_there _ _ _ (sym c.in_ok-at.ensures.index))

pub returns-clause-once : goal.returns-clause-once
returns-clause-once c = subst (λ (kept : Kept). NamesOnce (slice_get kept.terms)) c.self.view_is (named_once _ c.self.invariant.once)
