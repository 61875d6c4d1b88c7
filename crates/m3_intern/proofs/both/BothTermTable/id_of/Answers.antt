use Rattle.std.proofs.Common.{◌≡◌, ◌≢◌, ◌∙◌, ℕ, ◌+◌, List, Some, slice_get, sym, subst, arith}
use Rattle.m3_terms.specs.TermTable.{NamesOnce}
use Rattle.m3_terms.specs.declared.term.Term.{Term}
use Rattle.m3_intern.proofs.Positions.{named_once, none_of_both, found_there, get_left, get_right}
use Rattle.m3_intern.proofs.both.BothTermTable.id_of.Goals as goal

pub returns-in-Some-clause-id : goal.returns-in-Some-clause-id
returns-in-Some-clause-id c =
    subst (λ (terms : List Term). slice_get terms c.in-Some.at ≡ Some c.args.term.now) c.self.view_is
    (get_left c.self.inside.kept.now.keys c.self.inside.fresh.now.keys c.in-Some.at c.in-Some.ensures.within ∙ found_there _ _ _ (sym c.in-Some.ensures.index))

pub returns-in-Some-clause-once : goal.returns-in-Some-clause-once
returns-in-Some-clause-once c = subst (λ (terms : List Term). NamesOnce (slice_get terms)) c.self.view_is (named_once _ c.self.invariant.once)

pub returns-in_err-at-clause-id : goal.returns-in_err-at-clause-id
returns-in_err-at-clause-id c =
    let neither = none_of_both _ _ c.args.term.now (sym c.in_default.ensures.found) (sym c.in_err-at.ensures.found) in
    rw c.from_residual.ensures (subst (λ (terms : List Term). (n : ℕ) → slice_get terms n ≢ Some c.args.term.now) c.self.view_is neither)

pub returns-in_err-at-clause-once : goal.returns-in_err-at-clause-once
returns-in_err-at-clause-once c = subst (λ (terms : List Term). NamesOnce (slice_get terms)) c.self.view_is (named_once _ c.self.invariant.once)

pub returns-clause-id : goal.returns-clause-id
returns-clause-id c =
    subst (λ (terms : List Term). slice_get terms (c.len.result + c.in_ok-at.at) ≡ Some c.args.term.now) c.self.view_is
    (get_right c.self.inside.kept.now.keys c.self.inside.fresh.now.keys _ _ (omega (arith, c.len.ensures.len)) ∙ found_there _ _ _ (sym c.in_ok-at.ensures.index))

pub returns-clause-once : goal.returns-clause-once
returns-clause-once c = subst (λ (terms : List Term). NamesOnce (slice_get terms)) c.self.view_is (named_once _ c.self.invariant.once)
