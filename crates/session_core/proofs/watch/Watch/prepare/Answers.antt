use Rattle.std.proofs.Common.{◌++◌, ◌∙◌, ap, subst}
use Rattle.pattern_join.specs.Answers.{IsOverwide}
use Rattle.triple_index.specs.Changes.{changed}
use Rattle.session_core.specs.Numbers.{Numbers, AreNumbers}
use Rattle.session_core.proofs.WatchesAreStarted.{step_moved, stands_moved, wide_moved, reads_moved}
use Rattle.session_core.proofs.watch.Watch.prepare.Goals as goal

pub prepare-requires-clause-stands : goal.prepare-requires-clause-stands
prepare-requires-clause-stands g c = stands_moved c.tables_may_grow.ensures c.args.facts.now c.args.update.now.draft c.args.update.now.change (subst AreNumbers c.facts.view_is c.facts.invariant.1) c.requires.update c.args.self.now c.requires.stands _ _ (c.with-table.ensures ∙ ap (λ (numbers : Numbers). numbers.terms ++ c.args.update.now.draft) c.facts.view_is) (c.plain-old.ensures ∙ ap (λ (numbers : Numbers). numbers.triples) c.facts.view_is)

pub differing-requires-clause-step : goal.differing-requires-clause-step
differing-requires-clause-step g c =
    step_moved c.tables_may_grow.ensures c.args.facts.now c.args.update.now.draft c.args.update.now.change (subst AreNumbers c.facts.view_is c.facts.invariant.1) c.requires.update c.args.self.now c.requires.stands _ _ _ (c.with-table.ensures ∙ ap (λ (numbers : Numbers). numbers.terms ++ c.args.update.now.draft) c.facts.view_is) (c.plain-old.ensures ∙ ap (λ (numbers : Numbers). numbers.triples) c.facts.view_is) (c.after-new.ensures ∙ ap (λ (numbers : Numbers). changed numbers.triples c.args.update.now.change) c.facts.view_is) c.in-Ok.step
    c.in-Ok.ensures.step c.in-Ok.ensures.after c.in-Ok.ensures.added c.in-Ok.ensures.obsolete c.in-Ok.ensures.narrow

pub returns-in-Ok-clause-reads : goal.returns-in-Ok-clause-reads
returns-in-Ok-clause-reads g c = reads_moved c.tables_may_grow.ensures c.args.facts.now c.args.update.now.draft c.args.update.now.change (subst AreNumbers c.facts.view_is c.facts.invariant.1) c.requires.update c.args.self.now c.requires.stands _ _ _ _ (c.with-table.ensures ∙ ap (λ (numbers : Numbers). numbers.terms ++ c.args.update.now.draft) c.facts.view_is) (c.after-new.ensures ∙ ap (λ (numbers : Numbers). changed numbers.triples c.args.update.now.change) c.facts.view_is) c.prepare.ensures.reads

pub returns-in-Err-TooWide-clause-prepared : goal.returns-in-Err-TooWide-clause-prepared
returns-in-Err-TooWide-clause-prepared g c = wide_moved c.tables_may_grow.ensures c.args.facts.now c.args.update.now.draft c.args.update.now.change (subst AreNumbers c.facts.view_is c.facts.invariant.1) c.requires.update c.args.self.now c.requires.stands _ _ (c.with-table.ensures ∙ ap (λ (numbers : Numbers). numbers.terms ++ c.args.update.now.draft) c.facts.view_is) (c.after-new.ensures ∙ ap (λ (numbers : Numbers). changed numbers.triples c.args.update.now.change) c.facts.view_is) (subst (IsOverwide _) c.in-Err-TooWide.field-0-is c.in-Err-TooWide.ensures.wide)

pub returns-in-Err-TooWide-clause-reads : goal.returns-in-Err-TooWide-clause-reads
returns-in-Err-TooWide-clause-reads g c = reads_moved c.tables_may_grow.ensures c.args.facts.now c.args.update.now.draft c.args.update.now.change (subst AreNumbers c.facts.view_is c.facts.invariant.1) c.requires.update c.args.self.now c.requires.stands _ _ _ _ (c.with-table.ensures ∙ ap (λ (numbers : Numbers). numbers.terms ++ c.args.update.now.draft) c.facts.view_is) (c.after-new.ensures ∙ ap (λ (numbers : Numbers). changed numbers.triples c.args.update.now.change) c.facts.view_is) c.prepare.ensures.reads

pub returns-in-Err-NoMemory-clause-reads : goal.returns-in-Err-NoMemory-clause-reads
returns-in-Err-NoMemory-clause-reads g c = reads_moved c.tables_may_grow.ensures c.args.facts.now c.args.update.now.draft c.args.update.now.change (subst AreNumbers c.facts.view_is c.facts.invariant.1) c.requires.update c.args.self.now c.requires.stands _ _ _ _ (c.with-table.ensures ∙ ap (λ (numbers : Numbers). numbers.terms ++ c.args.update.now.draft) c.facts.view_is) (c.after-new.ensures ∙ ap (λ (numbers : Numbers). changed numbers.triples c.args.update.now.change) c.facts.view_is) c.prepare.ensures.reads
