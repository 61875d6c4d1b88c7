use Rattle.std.proofs.Common.{◌∙◌, sym, subst, arith}
use Rattle.sparql_algebra.specs.Solutions.{RowList}
use Rattle.delta_eval.specs.Changed.{IsChangeOf, HasRoomFor, LeadsTo}
use Rattle.delta_eval.proofs.PlaceByPlace.{zip_and, nothing}
use Rattle.delta_eval.proofs.HalfDone.{none_done, next, next_is, next_within, one_done, all_done}
use Rattle.delta_eval.proofs.lists.apply_all.Goals as goal

pub loop-change-init : goal.loop-change-init
loop-change-init c =
    none_done c.args.lists.now.items c.args.changes.items (zip_and IsChangeOf HasRoomFor c.args.lists.now.items c.args.changes.items c.requires.changes c.requires.room)

pub index_mut-requires : goal.index_mut-requires
index_mut-requires c =
    let here = c.len.ensures ∙ c.pop.new.self.ok.0 in
    let within = next_within c.args.lists.now.items c.args.changes.items c.loop-change.lists.items c.loop-change.changes.items c.pop.new.self.items c.in-Some.change
    c.loop-change.invariant c.in-Some.ensures.items c.len.result here in
    omega (arith, within, c.loop-change.lists.ok.0)

pub apply-requires-clause-change : goal.apply-requires-clause-change
apply-requires-clause-change c =
    let here = c.len.ensures ∙ c.pop.new.self.ok.0 in
    let is = c.index_mut.ensures.value ∙ next_is c.args.lists.now.items c.args.changes.items c.loop-change.lists.items c.loop-change.changes.items c.pop.new.self.items c.in-Some.change
    c.loop-change.invariant c.in-Some.ensures.items c.len.result c.index_mut.result.now here in
    subst (λ (l : RowList). IsChangeOf l c.in-Some.change) (sym is)
    (next c.args.lists.now.items c.args.changes.items c.loop-change.lists.items c.loop-change.changes.items c.pop.new.self.items c.in-Some.change
    c.loop-change.invariant c.in-Some.ensures.items).related.0

pub apply-requires-clause-room : goal.apply-requires-clause-room
apply-requires-clause-room c =
    let here = c.len.ensures ∙ c.pop.new.self.ok.0 in
    let is = c.index_mut.ensures.value ∙ next_is c.args.lists.now.items c.args.changes.items c.loop-change.lists.items c.loop-change.changes.items c.pop.new.self.items c.in-Some.change
    c.loop-change.invariant c.in-Some.ensures.items c.len.result c.index_mut.result.now here in
    subst (λ (l : RowList). HasRoomFor l c.in-Some.change) (sym is)
    (next c.args.lists.now.items c.args.changes.items c.loop-change.lists.items c.loop-change.changes.items c.pop.new.self.items c.in-Some.change
    c.loop-change.invariant c.in-Some.ensures.items).related.1

pub loop-change-preserved : goal.loop-change-preserved
loop-change-preserved c =
    let here = c.len.ensures ∙ c.pop.new.self.ok.0 in
    let is = c.index_mut.ensures.value ∙ next_is c.args.lists.now.items c.args.changes.items c.loop-change.lists.items c.loop-change.changes.items c.pop.new.self.items c.in-Some.change
    c.loop-change.invariant c.in-Some.ensures.items c.len.result c.index_mut.result.now here in
    one_done c.args.lists.now.items c.args.changes.items c.loop-change.lists.items c.loop-change.changes.items c.pop.new.self.items c.in-Some.change
    c.loop-change.invariant c.in-Some.ensures.items c.len.result c.apply.new.rows here (subst (λ (l : RowList). LeadsTo l c.in-Some.change c.apply.new.rows) is c.apply.ensures)

pub returns : goal.returns
returns c =
    all_done c.args.lists.now.items c.args.changes.items c.loop-change.lists.items c.loop-change.changes.items c.loop-change.invariant
    (nothing c.loop-change.changes.items (sym c.loop-change.changes.ok.0 ∙ c.in_default.ensures.cases.0))
