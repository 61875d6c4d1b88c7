use Rattle.std.proofs.Common.{◌∙◌, ap, ◌<◌, ◌≤◌, length, MatchOption, sym, subst}
use Rattle.m3_intern.specs.Interned.{bytes_of_terms}
use Rattle.triple_index.specs.Changes.{IsNet, changed}
use Rattle.session_core.specs.Graph.{terms_of, with_named}
use Rattle.session_core.specs.Numbers.{Numbers, AreNumbers}
use Rattle.session_core.specs.Watches.{IsNamedBy}
use Rattle.session_core.proofs.NumbersFollow.{over_triples, is_update, not_full}
use Rattle.session_core.proofs.facts.Facts.prepare.Goals as goal

pub is_full-requires : goal.is_full-requires
is_full-requires g c = subst (λ (numbers : Numbers). IsNet numbers.triples c.in_ok-change.change) (sym c.self.view_is) c.in_ok-change.ensures.change.net

pub returns-then-is_full-clause-update : goal.returns-then-is_full-clause-update
returns-then-is_full-clause-update g c =
    let draft = subst (λ terms. IsNamedBy c.args.self.now terms c.in-Some.draft) (c.in_ok-terms_of.ensures ∙ ap terms_of c.as_slice.ensures)
    (subst (λ found. MatchOption found (268435456 < bytes_of_terms (with_named c.args.self.now.terms c.in_ok-terms_of.field-0)) (IsNamedBy c.args.self.now c.in_ok-terms_of.field-0))
    c.in-Some.is c.in_ok-draft.ensures) in
    over_triples c.args.self.now c.in-Some.draft c.args.remove.now c.args.insert.now c.in_ok-change.change (subst AreNumbers c.self.view_is c.self.invariant.1)
    c.requires draft c.in_ok-change.ensures.change (subst (λ (numbers : Numbers). 262144 < length (changed numbers.triples c.in_ok-change.change)) c.self.view_is (c.is_full.ensures.0 c.if-is_full.true))

pub returns-clause-update : goal.returns-clause-update
returns-clause-update g c =
    let draft = subst (λ terms. IsNamedBy c.args.self.now terms c.in-Some.draft) (c.in_ok-terms_of.ensures ∙ ap terms_of c.as_slice.ensures)
    (subst (λ found. MatchOption found (268435456 < bytes_of_terms (with_named c.args.self.now.terms c.in_ok-terms_of.field-0)) (IsNamedBy c.args.self.now c.in_ok-terms_of.field-0))
    c.in-Some.is c.in_ok-draft.ensures) in
    is_update c.args.self.now c.in-Some.draft c.args.remove.now c.args.insert.now c.in_ok-change.change (subst AreNumbers c.self.view_is c.self.invariant.1)
    c.requires draft c.in_ok-change.ensures.change (subst (λ (numbers : Numbers). length (changed numbers.triples c.in_ok-change.change) ≤ 262144) c.self.view_is (not_full _ c.is_full.result c.if-is_full.false c.is_full.ensures))
