use Rattle.std.proofs.Common.{◌++◌, ◌∙◌, ap, sym, subst, true≢false}
use Rattle.sparql_algebra.specs.Solutions.{RowList}
use Rattle.session_core.specs.Numbers.{Numbers, AreNumbers}
use Rattle.session_core.proofs.WatchesAreStarted.{added_may, obsolete_may, may_moved, of_moved, prepared_same, prepared_differs}
use Rattle.session_core.proofs.watch.Watch.differing.Goals.{else-is_empty-via-then-is_empty+else-is_empty-2, else-is_empty-via-else-is_empty}
use Rattle.session_core.proofs.watch.Watch.differing.Goals as goal

pub returns-then-is_empty-2 : goal.returns-then-is_empty-2
returns-then-is_empty-2 c =
    prepared_same c.tables_may_grow.ensures c.args.facts.now c.args.update.now.draft c.args.update.now.change (subst AreNumbers c.facts.view_is c.facts.invariant.1) c.requires.update c.args.self.now c.requires.stands
    c.args.step c.requires.step
    (sym (ap (λ (l : RowList). l.rows) c.new_rows.ensures) ∙ c.is_empty.ensures.0 c.if-is_empty.true)
    (sym (ap (λ (l : RowList). l.rows) c.obsolete_rows.ensures) ∙ c.is_empty-then-is_empty.ensures.0 c.if-is_empty-2.true)

pub answer_of-requires : goal.answer_of-requires
answer_of-requires c =
    may_moved _ _ _ _ _ _ (c.with-table.ensures ∙ ap (λ (numbers : Numbers). numbers.terms ++ c.args.update.now.draft) c.facts.view_is) c.wanted-wanted.ensures (ap (λ (l : RowList). l.rows) c.new_rows-2.ensures)
    (added_may c.tables_may_grow.ensures c.args.facts.now c.args.update.now.draft c.args.update.now.change (subst AreNumbers c.facts.view_is c.facts.invariant.1) c.requires.update c.args.self.now c.requires.stands c.args.step c.requires.step)

pub answer_of-requires-2 : goal.answer_of-requires-2
answer_of-requires-2 c =
    may_moved _ _ _ _ _ _ (c.with-table.ensures ∙ ap (λ (numbers : Numbers). numbers.terms ++ c.args.update.now.draft) c.facts.view_is) c.wanted-wanted.ensures (ap (λ (l : RowList). l.rows) c.obsolete_rows-2.ensures)
    (obsolete_may c.tables_may_grow.ensures c.args.facts.now c.args.update.now.draft c.args.update.now.change (subst AreNumbers c.facts.view_is c.facts.invariant.1) c.requires.update c.args.self.now c.requires.stands c.args.step c.requires.step)

pub returns : goal.returns
returns c =
    prepared_differs c.tables_may_grow.ensures c.args.facts.now c.args.update.now.draft c.args.update.now.change (subst AreNumbers c.facts.view_is c.facts.invariant.1) c.requires.update c.args.self.now c.requires.stands c.args.step c.requires.step
    c.in_ok-added.added c.in_ok-obsolete.obsolete
    (λ a o. elim c.else-is_empty.branch [
      | else-is_empty-via-then-is_empty+else-is_empty-2 w ↦ true≢false (sym (w.is_empty-then-is_empty.ensures.1 (ap (λ (l : RowList). l.rows) w.obsolete_rows.ensures ∙ o)) ∙ w.if-is_empty-2.false)
      | else-is_empty-via-else-is_empty w ↦ true≢false (sym (c.is_empty.ensures.1 (ap (λ (l : RowList). l.rows) c.new_rows.ensures ∙ a)) ∙ w.if-is_empty.false)
    ])
    (of_moved _ _ _ _ _ _ c.in_ok-added.added (c.with-table.ensures ∙ ap (λ (numbers : Numbers). numbers.terms ++ c.args.update.now.draft) c.facts.view_is) c.wanted-wanted.ensures (ap (λ (l : RowList). l.rows) c.new_rows-2.ensures) c.in_ok-added.ensures.answer)
    c.in_ok-added.ensures.full
    (of_moved _ _ _ _ _ _ c.in_ok-obsolete.obsolete (c.with-table.ensures ∙ ap (λ (numbers : Numbers). numbers.terms ++ c.args.update.now.draft) c.facts.view_is) c.wanted-wanted.ensures (ap (λ (l : RowList). l.rows) c.obsolete_rows-2.ensures) c.in_ok-obsolete.ensures.answer)
    c.in_ok-obsolete.ensures.full
