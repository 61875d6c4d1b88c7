use Rattle.std.proofs.Common.{◌≡◌, ◌-◌, ◌^◌, min, List, ◌++◌, Contains, subst}
use Rattle.m3_terms.specs.declared.term.Term.{Term}
use Rattle.m3_intern.specs.Interned.{Kept, bytes_of_terms, IsDraftOf}
use Rattle.m3_intern.proofs.Drafts.{drafted, wanted_there}
use Rattle.m3_intern.proofs.interner.Interner.draft.Goals as goal

pub returns-clause-draft : goal.returns-clause-draft
returns-clause-draft c =
    let cost = subst (λ (terms : List Term). c.cost-cost.result ≡ min (bytes_of_terms terms) (2 ^ 64 - 1)) c.as_slice.ensures.keys c.cost-cost.ensures in
    subst (λ (kept : Kept). IsDraftOf kept c.in_ok-terms.terms.keys) c.self.view_is
    (drafted _ c.args.wanted _ _ _ _ c.in_ok-terms.ensures c.self.invariant cost c.saturating_add-need.ensures c.if-need-self.false)

pub returns-clause-named : goal.returns-clause-named
returns-clause-named c term there =
    subst (λ (kept : Kept). Contains (kept.terms ++ c.in_ok-terms.terms.keys) term) c.self.view_is
    (wanted_there c.self.inside.terms.keys c.args.wanted c.in_ok-terms.terms.keys c.in_ok-terms.ensures term there)
