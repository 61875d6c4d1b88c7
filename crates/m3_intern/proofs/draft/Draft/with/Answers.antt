use Rattle.std.proofs.Common.{List, sym, subst}
use Rattle.m3_terms.specs.declared.term.Term.{Term}
use Rattle.m3_intern.specs.Interned.{Kept, IsDraftOf}
use Rattle.m3_intern.proofs.Drafts.{draft_numbered}
use Rattle.m3_intern.proofs.draft.Draft.with.Goals as goal

pub invariant_of-result : goal.invariant_of-result
invariant_of-result c =
    let is = subst (λ (draft : List Term). IsDraftOf c.args.interner.now draft) (sym c.self.view_is) c.requires in
    draft_numbered _ _ (subst (λ (kept : Kept). IsDraftOf kept c.self.inside.terms.keys) (sym c.interner.view_is) is) c.interner.invariant.small
