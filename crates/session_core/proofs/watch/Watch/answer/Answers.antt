use Rattle.std.proofs.Common.{◌++◌, ◌∙◌, ap, subst}
use Rattle.sparql_algebra.specs.Solutions.{RowList}
use Rattle.session_core.specs.Numbers.{Numbers, AreNumbers}
use Rattle.session_core.specs.Watches.{with_terms}
use Rattle.session_core.proofs.TermsMayGrow.{still_numbers}
use Rattle.session_core.proofs.WatchesAreStarted.{watch_may, may_moved, watch_answers}
use Rattle.session_core.proofs.watch.Watch.answer.Goals as goal

pub answer_of-requires : goal.answer_of-requires
answer_of-requires c =
    let table = c.with-table.ensures ∙ ap (λ (numbers : Numbers). numbers.terms ++ c.args.draft.now) c.facts.view_is in
    let are = still_numbers c.args.facts.now c.args.draft.now (subst AreNumbers c.facts.view_is c.facts.invariant.1) c.requires.named.once in
    may_moved _ _ _ _ _ _ table c.wanted.ensures (ap (λ (l : RowList). l.rows) c.answer.ensures)
    (watch_may (with_terms c.args.facts.now c.args.draft.now) are c.args.self.now c.requires.stands)

pub returns-clause-answer : goal.returns-clause-answer
returns-clause-answer c =
    let table = c.with-table.ensures ∙ ap (λ (numbers : Numbers). numbers.terms ++ c.args.draft.now) c.facts.view_is in
    watch_answers c.args.facts.now c.args.draft.now _ (subst AreNumbers c.facts.view_is c.facts.invariant.1) c.requires.named.once c.args.self.now c.requires.stands
    _ _ table c.wanted.ensures (ap (λ (l : RowList). l.rows) c.answer.ensures) c.answer_of.result c.answer_of.ensures.answer
