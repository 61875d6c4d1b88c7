use Rattle.std.proofs.Common.{◌++◌, ◌∙◌, ap, subst}
use Rattle.session_core.specs.Numbers.{Numbers, AreNumbers}
use Rattle.session_core.proofs.NumbersFollow.{translated, change_is, change_reads}
use Rattle.session_core.proofs.facts.Facts.net.Goals as goal

pub returns-clause-change : goal.returns-clause-change
returns-clause-change g c =
    let table = c.with-table.ensures ∙ ap (λ (numbers : Numbers). numbers.terms ++ c.args.draft.now) c.self.view_is in
    let both = translated c.args.self.now c.args.draft.now c.with-table.result c.args.remove.now c.args.insert.now _ _ c.in_ok-remove.remove c.in_ok-insert.insert
    table c.as_slice.ensures c.as_slice-2.ensures c.in_ok-remove.ensures c.in_ok-insert.ensures in
    change_is c.args.self.now c.args.draft.now c.args.remove.now c.args.insert.now _ _ _ c.net.result both
    (ap (λ (numbers : Numbers). numbers.triples) c.self.view_is) c.net.ensures.net c.net.ensures.after

pub returns-clause-reads : goal.returns-clause-reads
returns-clause-reads g c =
    let table = c.with-table.ensures ∙ ap (λ (numbers : Numbers). numbers.terms ++ c.args.draft.now) c.self.view_is in
    let both = translated c.args.self.now c.args.draft.now c.with-table.result c.args.remove.now c.args.insert.now _ _ c.in_ok-remove.remove c.in_ok-insert.insert
    table c.as_slice.ensures c.as_slice-2.ensures c.in_ok-remove.ensures c.in_ok-insert.ensures in
    change_reads c.args.self.now c.args.draft.now c.args.remove.now c.args.insert.now _ _ _ _ _ (subst AreNumbers c.self.view_is c.self.invariant.1)
    c.requires.once both (ap (λ (numbers : Numbers). numbers.triples) c.self.view_is) c.net.ensures.reads
