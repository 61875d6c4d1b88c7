use Rattle.std.proofs.Common.{◌∙◌, List, ap, length, sym, subst}
use Rattle.sparql_algebra.specs.RowSets.{AreExactly}
use Rattle.sparql_algebra.specs.Solutions.{RowList}
use Rattle.delta_eval.specs.Changed.{AllInThrees, IsDifference}
use Rattle.delta_eval.specs.Standing.{Kept, Changes, IsStepOf, StandsOver, StepsTo}
use Rattle.delta_eval.specs.Wanted.{IsWanted, IsWantedOnly}
use Rattle.delta_eval.proofs.DifferencesLead.{only_holds}
use Rattle.delta_eval.proofs.StandingLaws.{wanted_exact, as_many_parts, steps_to, differences_of}
use Rattle.delta_eval.proofs.standing.Standing.prepare.Goals as goal

pub differences-requires : goal.differences-requires
differences-requires g c =
    let terms = g.T.TermTable.terms c.args.table.now in
    let i = c.self.inside in
    let rows = c.in_ok-rows.rows in
    let stands = subst (λ (k : Kept). StandsOver terms c.args.old.now k) (sym c.self.view_is) c.requires.stands in
    ap length c.deref.ensures.value ∙ as_many_parts terms c.args.old.now c.args.new.now i.wanted i.parts.items rows.parts.items i.answer rows.answer stands.rows c.in_ok-rows.ensures.rows
    ∙ sym (ap length c.deref-2.ensures.value)

pub returns-clause-step : goal.returns-clause-step
returns-clause-step g c =
    let i = c.self.inside in
    let rows = c.in_ok-rows.rows in
    let changes = c.in_ok-differences.field-0.items in
    let standing : Kept = record { wanted = i.wanted; parts = i.parts.items; answer = i.answer } in
    let step : Changes = record { parts = changes; answer = c.in_ok-between.field-0 } in
    let apart = subst (λ (l : List RowList). AllInThrees IsDifference l changes rows.parts.items) c.deref.ensures.value
    (subst (AllInThrees IsDifference c.deref.result.now changes) c.deref-2.ensures.value c.in_ok-differences.ensures) in
    subst (λ (k : Kept). IsStepOf k step) c.self.view_is (differences_of standing step rows.parts.items rows.answer apart c.in_ok-between.ensures)

pub returns-clause-after : goal.returns-clause-after
returns-clause-after g c =
    let terms = g.T.TermTable.terms c.args.table.now in
    let i = c.self.inside in
    let rows = c.in_ok-rows.rows in
    let changes = c.in_ok-differences.field-0.items in
    let standing : Kept = record { wanted = i.wanted; parts = i.parts.items; answer = i.answer } in
    let step : Changes = record { parts = changes; answer = c.in_ok-between.field-0 } in
    let apart = subst (λ (l : List RowList). AllInThrees IsDifference l changes rows.parts.items) c.deref.ensures.value
    (subst (AllInThrees IsDifference c.deref.result.now changes) c.deref-2.ensures.value c.in_ok-differences.ensures) in
    subst (λ (k : Kept). StepsTo terms c.args.new.now k step) c.self.view_is
    (steps_to terms c.args.new.now standing step rows.parts.items rows.answer apart c.in_ok-between.ensures c.in_ok-rows.ensures.rows c.in_ok-rows.ensures.narrow)

pub returns-clause-added : goal.returns-clause-added
returns-clause-added g c =
    let terms = g.T.TermTable.terms c.args.table.now in
    let once = c.term_of.ensures.once in
    let old = c.args.old.now in
    let new = c.args.new.now in
    let i = c.self.inside in
    let rows = c.in_ok-rows.rows in
    let added = c.in_ok-between.field-0.added.rows in
    let stands = subst (λ (k : Kept). StandsOver terms old k) (sym c.self.view_is) c.requires.stands in
    let now = wanted_exact terms once new i.wanted rows.parts.items rows.answer c.in_ok-rows.ensures.rows in
    let before = wanted_exact terms once old i.wanted i.parts.items i.answer stands.rows in
    subst (λ (k : Kept). AreExactly (IsWantedOnly terms k.wanted new old) added) c.self.view_is
    (only_holds (IsWanted terms i.wanted new) (IsWanted terms i.wanted old) rows.answer.rows i.answer.rows added now before c.in_ok-between.ensures.added)

pub returns-clause-obsolete : goal.returns-clause-obsolete
returns-clause-obsolete g c =
    let terms = g.T.TermTable.terms c.args.table.now in
    let once = c.term_of.ensures.once in
    let old = c.args.old.now in
    let new = c.args.new.now in
    let i = c.self.inside in
    let rows = c.in_ok-rows.rows in
    let obsolete = c.in_ok-between.field-0.obsolete.rows in
    let stands = subst (λ (k : Kept). StandsOver terms old k) (sym c.self.view_is) c.requires.stands in
    let now = wanted_exact terms once new i.wanted rows.parts.items rows.answer c.in_ok-rows.ensures.rows in
    let before = wanted_exact terms once old i.wanted i.parts.items i.answer stands.rows in
    subst (λ (k : Kept). AreExactly (IsWantedOnly terms k.wanted old new) obsolete) c.self.view_is
    (only_holds (IsWanted terms i.wanted old) (IsWanted terms i.wanted new) i.answer.rows rows.answer.rows obsolete before now c.in_ok-between.ensures.obsolete)
