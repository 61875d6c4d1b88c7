use Rattle.std.proofs.Common.{List, ◌∙◌, ◌++◌, ap, sym, subst}
use Rattle.m3_terms.specs.declared.term.Term.{Term}
use Rattle.m3_intern.specs.Interned.{Kept, IsDraftOf}
use Rattle.m3_intern.proofs.Drafts.{committed}
use Rattle.m3_intern.proofs.interner.Interner.commit.Goals as goal

pub invariant_of-self : goal.invariant_of-self
invariant_of-self c =
    let is = subst (λ (draft : List Term). IsDraftOf c.args.self.now draft) (sym c.draft.view_is) c.requires.draft in
    let here = subst (λ (kept : Kept). IsDraftOf kept c.draft.inside.terms.keys) (sym c.self.view_is) is in
    (committed _ _ _ _ _ here c.self.invariant c.draft.invariant c.in-Ok.ensures.keys).1

pub returns-clause-terms : goal.returns-clause-terms
returns-clause-terms c =
    let is = subst (λ (draft : List Term). IsDraftOf c.args.self.now draft) (sym c.draft.view_is) c.requires.draft in
    let here = subst (λ (kept : Kept). IsDraftOf kept c.draft.inside.terms.keys) (sym c.self.view_is) is in
    (committed _ _ _ _ _ here c.self.invariant c.draft.invariant c.in-Ok.ensures.keys).0
    ∙ ap (λ (draft : List Term). c.self.inside.terms.keys ++ draft) c.draft.view_is
    ∙ ap (λ (kept : Kept). kept.terms ++ c.args.draft) c.self.view_is
