use Rattle.std.proofs.Common.{◌++◌, ◌∙◌, ap, sym, subst, Contains}
use Rattle.pattern_join.specs.Answers.{IsOverwide}
use Rattle.session_core.specs.Numbers.{Numbers, AreNumbers}
use Rattle.session_core.proofs.WatchesAreStarted.{started, start_wide, start_reads}
use Rattle.session_core.proofs.watch.Watch.start.Goals as goal

pub aim_of-requires-clause-named : goal.aim_of-requires-clause-named
aim_of-requires-clause-named g c term d = subst (λ terms. Contains terms term) (sym (c.with-table.ensures ∙ ap (λ (numbers : Numbers). numbers.terms ++ c.args.draft.now) c.facts.view_is)) (c.requires.named.named term d)

pub returns-in-Ok-clause-watch : goal.returns-in-Ok-clause-watch
returns-in-Ok-clause-watch g c = started c.args.facts.now c.args.draft.now (subst AreNumbers c.facts.view_is c.facts.invariant.1) c.requires.named.once _ _ (c.with-table.ensures ∙ ap (λ (numbers : Numbers). numbers.terms ++ c.args.draft.now) c.facts.view_is) (c.plain-view.ensures ∙ ap (λ (numbers : Numbers). numbers.triples) c.facts.view_is) _ _ _ c.in_ok-aim.ensures c.in-Ok.standing c.in-Ok.ensures.stands c.in-Ok.ensures.wanted c.in-Ok.ensures.narrow

pub returns-in-Ok-clause-reads : goal.returns-in-Ok-clause-reads
returns-in-Ok-clause-reads g c = start_reads c.args.facts.now c.args.draft.now (subst AreNumbers c.facts.view_is c.facts.invariant.1) c.requires.named.once _ _ (c.with-table.ensures ∙ ap (λ (numbers : Numbers). numbers.terms ++ c.args.draft.now) c.facts.view_is) (c.plain-view.ensures ∙ ap (λ (numbers : Numbers). numbers.triples) c.facts.view_is) _ _ _ c.in_ok-aim.ensures _ _ c.start.ensures.reads

pub returns-in-Err-TooWide-clause-watch : goal.returns-in-Err-TooWide-clause-watch
returns-in-Err-TooWide-clause-watch g c = start_wide c.args.facts.now c.args.draft.now (subst AreNumbers c.facts.view_is c.facts.invariant.1) c.requires.named.once _ _ (c.with-table.ensures ∙ ap (λ (numbers : Numbers). numbers.terms ++ c.args.draft.now) c.facts.view_is) (c.plain-view.ensures ∙ ap (λ (numbers : Numbers). numbers.triples) c.facts.view_is) _ _ _ c.in_ok-aim.ensures (subst (IsOverwide _) c.in-Err-TooWide.field-0-is c.in-Err-TooWide.ensures.wide)

pub returns-in-Err-TooWide-clause-reads : goal.returns-in-Err-TooWide-clause-reads
returns-in-Err-TooWide-clause-reads g c = start_reads c.args.facts.now c.args.draft.now (subst AreNumbers c.facts.view_is c.facts.invariant.1) c.requires.named.once _ _ (c.with-table.ensures ∙ ap (λ (numbers : Numbers). numbers.terms ++ c.args.draft.now) c.facts.view_is) (c.plain-view.ensures ∙ ap (λ (numbers : Numbers). numbers.triples) c.facts.view_is) _ _ _ c.in_ok-aim.ensures _ _ c.start.ensures.reads

pub returns-clause-reads : goal.returns-clause-reads
returns-clause-reads g c = start_reads c.args.facts.now c.args.draft.now (subst AreNumbers c.facts.view_is c.facts.invariant.1) c.requires.named.once _ _ (c.with-table.ensures ∙ ap (λ (numbers : Numbers). numbers.terms ++ c.args.draft.now) c.facts.view_is) (c.plain-view.ensures ∙ ap (λ (numbers : Numbers). numbers.triples) c.facts.view_is) _ _ _ c.in_ok-aim.ensures _ _ c.start.ensures.reads
